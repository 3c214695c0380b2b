-- Laws of a line's words: bytes one by one, what an event is, and what it is judged to be.
use Prim.Native.Nat.{ℕ, ◌+◌, ◌<◌}
use native.Mathlib.Numerals.{add-one}
use mathlib.Core.List.{List, [], ◌∷◌, ◌++◌, append_assoc, append-nil}
use mathlib.Core.Path.{◌≡◌, refl, sym, ◌∙◌, ap}
use lib.ListN.{length, take, get_or}
use lib.Seq.{take-suc}
use Rattle.rules.specs.Lines.{ascii, decimal, hex, spaced}
use Rattle.exchange.specs.Meaning.{deviation_number, deviation_of, outcome_of}
use Rattle.exchange.specs.declared.error.ProtocolDeviation.{ProtocolDeviation}
use Rattle.exchange.specs.declared.error.ProtocolDeviation.TheVariants as protocol
use Rattle.exchange.specs.declared.types.Outcome.{Outcome}
use Rattle.exchange.specs.declared.types.Outcome.TheVariants as outcome
use Rattle.telling.specs.Words.{pairs, timed, number_of, judged}
use Rattle.text.specs.Written.{Adds}
use Rattle.text.proofs.Adding.{both, saying}

pairs-append : (a b : List ℕ) → pairs (a ++ b) ≡ pairs a ++ pairs b
pairs-append [] b = refl
pairs-append (x ∷ a) b = ap (λ (l : List ℕ). spaced (hex (x ∷ [])) ++ l) (pairs-append a b) ∙ sym (append_assoc (spaced (hex (x ∷ []))) (pairs a) (pairs b))

-- One byte more.
pub pairs_next : (l : List ℕ) (i : ℕ) → i < length l → pairs (take i l) ++ spaced (hex (get_or l i 0 ∷ [])) ≡ pairs (take (i + 1) l)
pairs_next l i h =
    sym (rw (add-one, take-suc l i 0 h, pairs-append) (ap (λ (x : List ℕ). pairs (take i l) ++ x) (append-nil (spaced (hex (get_or l i 0 ∷ []))))))

-- A deviation's number, as the code counts it.
pub numbers : (d : ProtocolDeviation) → deviation_number d ≡ number_of (deviation_of d)
numbers protocol.InvalidServiceId = refl
numbers protocol.InvalidRequestServiceId = refl
numbers protocol.InvalidSubFunction = refl
numbers protocol.UnexpectedPositiveResponse = refl
numbers protocol.InvalidDataIdentifier = refl
numbers protocol.InvalidRoutineIdentifier = refl
numbers protocol.InvalidBlockSequenceCounter = refl
numbers (protocol.InvalidResponseLength least most) = refl
numbers protocol.InvalidLengthFormat = refl
numbers protocol.InvalidLengthFormatIdentifier = refl
numbers protocol.InvalidMaxNumberOfBlockLength = refl
numbers protocol.InvalidAddressAndLengthFormatIdentifier = refl
numbers protocol.InvalidMemoryAddress = refl
numbers protocol.InvalidMemorySize = refl
numbers protocol.InvalidMemoryRecordLength = refl

-- The words do not say where the data stands.
pub judged-anywhere : (l : List ℕ) (o : Outcome) → judged (outcome_of [] o) ≡ judged (outcome_of l o)
unfolding judged
judged-anywhere l (outcome.PositiveResponse p) = refl
judged-anywhere l outcome.Suppressed = refl
judged-anywhere l (outcome.NegativeResponse c) = refl
judged-anywhere l outcome.Timeout = refl
judged-anywhere l outcome.Disconnected = refl
judged-anywhere l (outcome.Transport n) = refl
judged-anywhere l (outcome.Fault f) = refl
judged-anywhere l (outcome.Refused n) = refl
judged-anywhere l outcome.PendingLimit = refl

-- Words behind a time.
pub behind-time : (t : ℕ) {a l m o : List ℕ} {at n r : ℕ} → Adds (timed t []) l at n m → Adds a m n r o → Adds (timed t a) l at r o
behind-time t p q = both (saying (append-nil (decimal t ++ ascii " ms  ")) p) q
