-- What `block_length` tells of the last two checks of calls 11 and 12.
use Rattle.std.specs.Prelude.{Some, None}
use Prim.Native.Nat.{ℕ, ◌^◌, ◌<◌}
use native.Mathlib.Omega.{arith}
use mathlib.Core.Bool.{Bool, true, false, cond}
use mathlib.Core.Option.{none, some}
use mathlib.Core.Path.{◌≡◌, refl}
use mathlib.Core.List.{List, [], ◌∷◌}
use borrow.Author.Tests.{lt-ltb, le-ltb, le-leb}
use lib.Dec.{leb, ltb}
use Rattle.rules.specs.After.{strictly}
use Rattle.rules.specs.Answers.{Fault, deviation, overflow}
use Rattle.rules.specs.InOrder.{Check, unless, in_strict}
use Rattle.exchange.specs.Meaning.{first_of}
use Rattle.lengths.specs.Numbers.{number_of}
use Rattle.lengths.proofs.Values.{told, high}

always : (strict : Bool) → in_strict strict true ≡ true
always true = refl
always false = refl

-- The last two checks of calls 11 and 12, of the value v.
module _ (strict : Bool) (v : ℕ) where
  abbrev pub last : List (Check Fault)
  last = strictly strict (leb 3 v) 11 ∷ unless (ltb v (2 ^ 64)) overflow ∷ []

  -- A value above 2^64 - 1 is not under 3.
  pub over : number_of v ≡ None → some overflow ≡ first_of last
  over e =
      let more = high v e in
      rw (le-leb 3 v (omega arith), always strict, le-ltb v (2 ^ 64) more)

  pub under : (n : ℕ) (t : Bool) → number_of v ≡ Some n → n < 2 ^ 64 → in_strict strict (leb 3 n) ≡ t
      → cond t none (some (deviation 11)) ≡ first_of last
  under n t e h k =
      let same = told v n e in
      rw (same, k, lt-ltb n (2 ^ 64) h)
