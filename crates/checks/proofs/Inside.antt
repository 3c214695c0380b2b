-- What the contracts come to for a call that is not refused and a reply that was a positive: `rules`' definitions. And the data lies inside the reply.
use Prim.Native.Nat.{ℕ, ◌+◌, ◌-◌, ◌*◌, ◌/◌, ◌%◌, ◌^◌, ◌≤◌}
use native.Mathlib.Omega.{arith}
use mathlib.Core.Bool.{Bool, true, false, cond}
use mathlib.Core.List.{List, []}
use mathlib.Core.Option.{Option, none, some}
use mathlib.Core.Path.{◌≡◌, refl, sym, subst, ◌∙◌}
use borrow.Author.Tests.{le-leb, leb-true, lt-ltb}
use lib.Dec.{eqb, leb}
use lib.ListN.{length, take, drop, length-take, length-drop}
use lib.Seq.{take_all}
use Rattle.rules.specs.After.{length_bytes, service_checks, handed, first, checked, number_of}
use Rattle.rules.specs.Answers as rules
use Rattle.rules.specs.Answers.{Part, part, behind, positive, suppressed, negative, timeout, pending_limit, disconnected, transport, fault, refused, if_positive}
use Rattle.rules.specs.Calls as calls
use Rattle.rules.specs.Calls.{request, session, reset, security, tester_present, read_memory, write_memory, read_identifier, write_identifier, fault_count, routine, download, upload, transfer, transfer_exit, fault_list, sub_of, with_bit7, head, loads}
use Rattle.rules.specs.Refusals.{between, arguments}
use Rattle.rules.proofs.Inside.{data-inside, number_fits}
use Rattle.rules.proofs.Judging.{Pass, both, judge-ind}
use Rattle.exchange.specs.declared.types.Place.{Place}
use Rattle.exchange.specs.declared.types.Outcome.{Outcome}
use Rattle.exchange.specs.declared.types.Outcome.TheVariants.{PositiveResponse}
use Rattle.exchange.specs.Meaning.{part_of, outcome_of}
use Rattle.exchange.proofs.Placing.{part-inside}
use Rattle.requests.specs.declared.Data.TheVariants.{Absent, Present}
use Rattle.requests.specs.declared.Call.{Call}
use Rattle.requests.specs.declared.Call.TheVariants as call
use Rattle.requests.specs.Meaning.{call_of}
use Rattle.checks.specs.Answered.{answered, Checked, fitting}
use Rattle.checks.proofs.Handing.{handed-beside}

-- Refusals 2 and 3 pass: the first 15 bytes are all.
short : (l : List ℕ) → between 1 15 (length l) ≡ true → take 15 l ≡ l
short l e = take_all 15 l (leb-true (length l) 15 (both (leb 1 (length l)) (leb (length l) 15) e).1)

pub as-sent : (c : Call) (a s d : List ℕ) → Pass (arguments (call_of c a s d)) → call_of c (take 15 a) (take 15 s) d ≡ call_of c a s d
as-sent (call.Request sid sub x) a s d p = refl
as-sent (call.DiagnosticSessionControl sub) a s d p = refl
as-sent (call.EcuReset sub) a s d p = refl
as-sent (call.SecurityAccess sub x) a s d p = refl
as-sent call.TesterPresent a s d p = refl
as-sent call.ReadMemoryByAddress a s d p = rw (short a p.0, short s p.1.0)
as-sent call.WriteMemoryByAddress a s d p = rw (short a p.0, short s p.1.0)
as-sent (call.ReadDataByIdentifier id) a s d p = refl
as-sent (call.WriteDataByIdentifier id) a s d p = refl
as-sent (call.ReadDTCInformation mask) a s d p = refl
as-sent (call.RoutineControl sub id x) a s d p = refl
as-sent (call.RequestDownload c e) a s d p = rw (short a p.1.1.0, short s p.1.1.1.0)
as-sent (call.RequestUpload c e) a s d p = rw (short a p.1.1.0, short s p.1.1.1.0)
as-sent (call.TransferData counter x) a s d p = refl
as-sent (call.RequestTransferExit x) a s d p = refl
as-sent (call.ReadDTCInformationDTC mask) a s d p = refl

-- What is checked does not depend on the data.
module _ (strict : Bool) (a s d : List ℕ) where
  checks-beside : (k : Call) (r : List ℕ) → service_checks strict (call_of k a s []) r ≡ service_checks strict (call_of k a s d) r
  checks-beside (call.Request sid sub p) r = refl
  checks-beside (call.DiagnosticSessionControl sub) r = refl
  checks-beside (call.EcuReset sub) r = refl
  checks-beside (call.SecurityAccess sub p) r = refl
  checks-beside call.TesterPresent r = refl
  checks-beside call.ReadMemoryByAddress r = refl
  checks-beside call.WriteMemoryByAddress r = refl
  checks-beside (call.ReadDataByIdentifier id) r = refl
  checks-beside (call.WriteDataByIdentifier id) r = refl
  checks-beside (call.ReadDTCInformation mask) r = refl
  checks-beside (call.RoutineControl sub id p) r = refl
  checks-beside (call.RequestDownload c e) r = refl
  checks-beside (call.RequestUpload c e) r = refl
  checks-beside (call.RequestTransferExit p) r = refl
  checks-beside (call.ReadDTCInformationDTC mask) r = refl
  checks-beside (call.TransferData counter Absent) r = refl
  checks-beside (call.TransferData counter Present) r = refl

  pub checked-beside : (k : Call) (p : Part) → checked strict (call_of k a s []) p ≡ checked strict (call_of k a s d) p
  unfolding checked
  checked-beside k p = rw (checks-beside k p.bytes, ← handed-beside k a s [] p, handed-beside k a s d p)

-- A part d lies inside the bytes r at an index, if it begins there.
module _ (at : ℕ) (r : List ℕ) where
  record Within (d : Part) : Type 0 where
    from : at ≤ d.at
    to : d.at ≤ at + length r → d.at + length d.bytes ≤ at + length r

  left : (k : ℕ) → Within (behind k (part at r))
  left k = record { from = omega arith; to = λ h. omega (arith, length-drop k r) }

  cut : (n k : ℕ) → Within (first n (behind k (part at r)))
  cut n k = record { from = omega arith; to = λ h. omega (arith, length-take n (drop k r), length-drop k r) }

  handed-within : (c : calls.Call) → Within (handed c (part at r))
  handed-within (request sid sub x) = left (head sub)
  handed-within (session sub) = cut (cond (eqb (length (drop 2 r)) 4) 4 0) 2
  handed-within (reset sub) = cut (cond (eqb (length (drop 2 r)) 1) 1 0) 2
  handed-within (security sub x) = go (eqb (sub % 2) 1)
    where
      go : (odd : Bool) → Within (cond odd (behind 2 (part at r)) (first 0 (behind 2 (part at r))))
      go true = left 2
      go false = cut 0 2
  handed-within tester_present = cut 0 2
  handed-within (read_memory a s) = left 1
  handed-within (write_memory a s x) = left 1
  handed-within (read_identifier id) = left 3
  handed-within (write_identifier id x) = cut 0 3
  handed-within (fault_count mask) = cut 4 2
  handed-within (routine sub id x) = left 4
  handed-within (download c e a s) = cut (length_bytes r) 2
  handed-within (upload c e a s) = cut (length_bytes r) 2
  handed-within (transfer counter x) = left 2
  handed-within (transfer_exit x) = left 1
  handed-within (fault_list mask) = cut ((length (drop 2 r) - 1) / 4 * 4 + 1) 2

-- A positive's data lies between two indices.
abbrev Lies : ℕ → ℕ → rules.Outcome → Type 0
Lies from to (positive d) = (from ≤ d.at) × (d.at + length d.bytes ≤ to)
Lies from to suppressed = Unit {0}
Lies from to (negative n) = Unit {0}
Lies from to timeout = Unit {0}
Lies from to disconnected = Unit {0}
Lies from to (transport n) = Unit {0}
Lies from to (fault f) = Unit {0}
Lies from to (refused n) = Unit {0}
Lies from to pending_limit = Unit {0}

-- The reply at a place, with the SID and the sub-function that a positive has.
module _ (strict quiet : Bool) (l : List ℕ) (place : Place) (c : calls.Call)
    (headed : head (with_bit7 quiet (sub_of c)) ≤ length (part_of l place).bytes) where
  reply-inside : place.at + length (part_of l place).bytes ≤ length l
  reply-inside = part-inside l place.at place.len (part_of l place).bytes refl (some_byte (with_bit7 quiet (sub_of c)) headed)
    where
      some_byte : (sub : Option ℕ) {n : ℕ} → head sub ≤ n → 1 ≤ n
      some_byte none h = h
      some_byte (some s) h = omega arith

  begins : Pass (service_checks strict c (part_of l place).bytes) → (handed c (part_of l place)).at ≤ place.at + length (part_of l place).bytes
  begins p = data-inside strict quiet place.at (part_of l place).bytes c headed p

  -- No part is nowhere then.
  pub as-checked : answered l (checked strict c (part_of l place)) ≡ checked strict c (part_of l place)
  unfolding checked
  as-checked =
      judge-ind (λ o. answered l o ≡ o) fault (service_checks strict c (part_of l place).bytes) (positive (handed c (part_of l place))) (λ f. refl)
      (λ p. rw (le-leb (handed c (part_of l place)).at (length l) (omega (arith, begins p, reply-inside))))

  checked-lies : Lies place.at (place.at + length (part_of l place).bytes) (checked strict c (part_of l place))
  unfolding checked
  checked-lies =
      let within = handed-within place.at (part_of l place).bytes c in
      judge-ind (Lies place.at (place.at + length (part_of l place).bytes)) fault
      (service_checks strict c (part_of l place).bytes) (positive (handed c (part_of l place))) (λ f. tt)
      (λ p. (within.from, within.to (begins p)))

module _ (strict quiet : Bool) (c : Call) (a s d l : List ℕ) (place : Place) (sent : Pass (arguments (call_of c a s d)))
    (headed : head (with_bit7 quiet (sub_of (call_of c a s d))) ≤ length (part_of l place).bytes) where
  -- What `check` answers is what `rules` says of the reply.
  pub check-is : {r : Outcome} → Checked strict c a s l place r → outcome_of l r ≡ checked strict (call_of c a s d) (part_of l place)
  check-is x =
      x.means ∙
      rw (checked-beside strict (take 15 a) (take 15 s) d c (part_of l place), as-sent c a s d sent)
      (as-checked strict quiet l place (call_of c a s d) headed)

  -- The place of its data lies inside the reply's.
  pub data-in-place : {p : Place} → Checked strict c a s l place (PositiveResponse p)
      → (place.at ≤ p.at) × (p.at + p.len ≤ place.at + place.len)
  data-in-place {p} x =
      let found = checked-lies strict quiet l place (call_of c a s d) headed in
      let lies = subst (λ (o : rules.Outcome). Lies place.at (place.at + length (part_of l place).bytes) o) (sym (check-is x)) found in
      (lies.0, omega (arith, x.inside, length-take p.len (drop p.at l), length-drop p.at l, length-take place.len (drop place.at l)))

-- The number of what is answered in the end fits, so that `number` is `rules`'. o: what the exchange says of the reply p.
pub number-fitting : (strict : Bool) (c : calls.Call) (o : rules.Outcome) (p : Part)
    → let z = if_positive o (λ d. checked strict c p) o in fitting (number_of c z) ≡ number_of c z
unfolding checked
number-fitting strict c o p = go o
  where
    none_of : (loading : Bool) → fitting (cond loading 0 0) ≡ cond loading 0 0
    none_of true = refl
    none_of false = refl

    of-checked : fitting (number_of c (checked strict c p)) ≡ number_of c (checked strict c p)
    of-checked =
        judge-ind (λ z. fitting (number_of c z) ≡ number_of c z) fault (service_checks strict c p.bytes) (positive (handed c p)) (λ f. none_of (loads c))
        (λ k. rw (lt-ltb (number_of c (positive (handed c p))) (2 ^ 64) (number_fits strict false p.at p.bytes c k)))

    go : (o : rules.Outcome) → let z = if_positive o (λ d. checked strict c p) o in fitting (number_of c z) ≡ number_of c z
    go (positive d) = of-checked
    go suppressed = none_of (loads c)
    go (negative n) = none_of (loads c)
    go timeout = none_of (loads c)
    go disconnected = none_of (loads c)
    go (transport n) = none_of (loads c)
    go (fault f) = none_of (loads c)
    go (refused n) = none_of (loads c)
    go pending_limit = none_of (loads c)
