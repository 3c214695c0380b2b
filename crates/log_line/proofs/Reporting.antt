-- Laws of the line of an answer.
use Rattle.std.specs.Prelude as code
use Prim.Native.Nat.{ℕ}
use mathlib.Core.List.{List, ◌∷◌}
use mathlib.Core.Path.{◌≡◌, refl}
use Rattle.rules.specs.Answers.{fault}
use Rattle.rules.specs.Lines.{ascii, word, detail, line}
use Rattle.exchange.specs.Meaning.{deviation_number, deviation_of, part_of, outcome_of, answer_of}
use Rattle.exchange.specs.declared.error.ProtocolDeviation.{ProtocolDeviation}
use Rattle.exchange.specs.declared.error.ProtocolDeviation.TheVariants as protocol
use Rattle.exchange.specs.declared.types.Outcome.{Outcome}
use Rattle.exchange.specs.declared.types.Answer.{Answer}
use Rattle.text.specs.Written.{Wrote, text}
use Rattle.text.proofs.Lines.{line-text}

-- "deviation number (2) and reply"
pub deviates : (d : ProtocolDeviation) (reply : List ℕ) → (word (fault (deviation_of d)) ≡ "deviation") × (detail (fault (deviation_of d)) reply ≡ deviation_number d ∷ reply)
deviates protocol.InvalidServiceId reply = (refl, refl)
deviates protocol.InvalidRequestServiceId reply = (refl, refl)
deviates protocol.InvalidSubFunction reply = (refl, refl)
deviates protocol.UnexpectedPositiveResponse reply = (refl, refl)
deviates protocol.InvalidDataIdentifier reply = (refl, refl)
deviates protocol.InvalidRoutineIdentifier reply = (refl, refl)
deviates protocol.InvalidBlockSequenceCounter reply = (refl, refl)
deviates (protocol.InvalidResponseLength least most) reply = (refl, refl)
deviates protocol.InvalidLengthFormat reply = (refl, refl)
deviates protocol.InvalidLengthFormatIdentifier reply = (refl, refl)
deviates protocol.InvalidMaxNumberOfBlockLength reply = (refl, refl)
deviates protocol.InvalidAddressAndLengthFormatIdentifier reply = (refl, refl)
deviates protocol.InvalidMemoryAddress reply = (refl, refl)
deviates protocol.InvalidMemorySize reply = (refl, refl)
deviates protocol.InvalidMemoryRecordLength reply = (refl, refl)

-- The line of an answer whose outcome is o.
pub told : (replies : List ℕ) (x : Answer) {o : Outcome} {before after : List ℕ} {r : code.Option ℕ} → x.outcome ≡ o →
    Wrote (text (ascii (word (outcome_of replies o))) x.time x.events x.notices (detail (outcome_of replies o) (part_of replies x.reply).bytes)) before r after →
    Wrote (line (answer_of replies x)) before r after
told replies x e h = rw (line-text (answer_of replies x), e) h
