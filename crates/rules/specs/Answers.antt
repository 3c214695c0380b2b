-- What a call answers, in document 01's words and numbers.
use Rattle.std.specs.Prelude.{ℕ, ◌+◌, Bool, cond, List, [], drop}
use Rattle.std.proofs.Math.Option.{Option}

-- Bytes, and where they stand in the lent reply bytes.
pub record Part : Type 0 where
  pub at : ℕ
  pub bytes : List ℕ

abbrev pub part : ℕ → List ℕ → Part
part at bs = record { at = at; bytes = bs }

abbrev pub nowhere : Part
nowhere = part 0 []

-- What is left of a part behind its first n bytes.
abbrev pub behind : ℕ → Part → Part
behind n p = part (p.at + n) (drop n p.bytes)

-- "Deviations are numbered 1 to 15 in the order of `ProtocolDeviation`"; number 8 has bounds, (minimum, maximum or none).
pub data Fault : Type 0 where
  deviation : ℕ → Fault
  deviation8 : ℕ → Option ℕ → Fault
  bad_length : Fault
  overflow : Fault

-- "A length error is deviation 8 (minimum, maximum) in strict, the plain length outcome in lenient."
abbrev pub length_error : Bool → ℕ → Option ℕ → Fault
length_error strict least most = cond strict (deviation8 least most) bad_length

pub data Outcome : Type 0 where
  positive : Part → Outcome
  suppressed : Outcome
  negative : ℕ → Outcome
  timeout : Outcome
  pending_limit : Outcome
  disconnected : Outcome
  transport : ℕ → Outcome
  fault : Fault → Outcome
  refused : ℕ → Outcome

-- By whether an outcome is positive.
abbrev pub if_positive : {A : Type 0} → Outcome → (Part → A) → A → A
if_positive (positive p) f x = f p
if_positive suppressed f x = x
if_positive (negative n) f x = x
if_positive timeout f x = x
if_positive pending_limit f x = x
if_positive disconnected f x = x
if_positive (transport n) f x = x
if_positive (fault e) f x = x
if_positive (refused n) f x = x

-- "Each answer carries the number of events read and of pending notices"; and the reply that settled it, `nowhere` if none did.
pub record Answer : Type 0 where
  pub outcome : Outcome
  pub time : ℕ
  pub events : ℕ
  pub notices : ℕ
  pub reply : Part

abbrev pub answer : Outcome → ℕ → ℕ → ℕ → Part → Answer
answer o t e n p = record { outcome = o; time = t; events = e; notices = n; reply = p }

-- "Refused: the number, time and counts 0"
abbrev pub refusal : ℕ → Answer
refusal n = answer (refused n) 0 0 0 nowhere
