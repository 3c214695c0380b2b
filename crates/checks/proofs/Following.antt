-- What follows from an outcome: its data, the number of calls 11 and 12, and the timing of call 1.
use Rattle.std.specs.Prelude.{Some}
use Prim.Native.Nat.{ℕ, ◌^◌, ◌≤◌, ◌<◌}
use native.Mathlib.Omega.{arith}
use mathlib.Core.Bool.{Bool, true, false, ◌||◌}
use mathlib.Core.List.{List, []}
use mathlib.Core.Logic.{◌≢◌}
use mathlib.Core.Path.{◌≡◌, refl}
use borrow.Author.Tests.{eq-eqb, ne_eqb, eqb-false, lt-ltb}
use lib.Dec.{eqb}
use Rattle.rules.specs.After as after
use Rattle.rules.specs.After.{adopted, timing_of}
use Rattle.rules.specs.Answers as rules
use Rattle.rules.specs.Answers.{positive, suppressed, negative, timeout, pending_limit, disconnected, transport, fault, refused, if_positive}
use Rattle.rules.specs.Bytes.{value}
use Rattle.rules.specs.Calls.{Call, numbered}
use Rattle.lengths.specs.Numbers.{number_of}
use Rattle.lengths.proofs.Values.{told}
use Rattle.checks.specs.Answered.{fitting}

-- What comes of a positive's data comes of an outcome's bytes, if no bytes give what no positive gives.
pub of-bytes : {A : Type 0} (f : List ℕ → A) (o : rules.Outcome)
    → if_positive o (λ p. f p.bytes) (f []) ≡ f (if_positive o (λ p. p.bytes) [])
of-bytes f (positive p) = refl
of-bytes f suppressed = refl
of-bytes f (negative n) = refl
of-bytes f timeout = refl
of-bytes f disconnected = refl
of-bytes f (transport n) = refl
of-bytes f (fault e) = refl
of-bytes f (refused n) = refl
of-bytes f pending_limit = refl

-- n: the call's number; bytes: the outcome's data.
module _ (c : Call) (o : rules.Outcome) (n : ℕ) (call : n ≡ numbered c) where
  eleven-or-twelve : 11 ≤ n → n ≤ 12 → (eqb n 11 || eqb n 12) ≡ true
  eleven-or-twelve h k = go (eqb n 11) refl
    where
      go : (t : Bool) → eqb n 11 ≡ t → (t || eqb n 12) ≡ true
      go true e = refl
      go false e = let other = eqb-false n 11 e in eq-eqb n 12 (omega arith)

  pub no_number : n ≢ 11 → n ≢ 12 → 0 ≡ fitting (after.number_of c o)
  no_number h k = rw (← call, ne_eqb n 11 h, ne_eqb n 12 k)

  module _ (bytes : List ℕ) (its : bytes ≡ if_positive o (λ p. p.bytes) []) where
    module _ (low : 11 ≤ n) (most : n ≤ 12) where
      value_of : after.number_of c o ≡ value bytes
      value_of = rw (← call, eleven-or-twelve low most, of-bytes value o, ← its)

      pub number_fits : (v : ℕ) → number_of (value bytes) ≡ Some v → v < 2 ^ 64 → v ≡ fitting (after.number_of c o)
      number_fits v e h = rw (value_of, told (value bytes) v e, lt-ltb v (2 ^ 64) h)
