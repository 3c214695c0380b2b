-- The code tests whether a number is wrong, the definition whether it is right: `n < 2` and 2 ≤ n, `n == 0` and 0 < n.
use Prim.Native.Nat.{ℕ}
use native.Mathlib.Omega.{arith}
use mathlib.Core.Bool.{true, false}
use mathlib.Core.Path.{◌≡◌}
use borrow.Author.Tests.{eqb-true, eqb-false, ltb-true, ltb-false, lt-ltb, le-ltb, le-leb, lt-leb}
use lib.Dec.{leb, ltb, eqb}

pub less : (a b : ℕ) → ltb b a ≡ true → leb a b ≡ false
less a b e = lt-leb a b (ltb-true b a e)

pub not-less : (a b : ℕ) → ltb b a ≡ false → leb a b ≡ true
not-less a b e = le-leb a b (ltb-false b a e)

pub zero : (n : ℕ) → eqb n 0 ≡ true → ltb 0 n ≡ false
zero n e = le-ltb 0 n (omega (arith, eqb-true n 0 e))

pub not-zero : (n : ℕ) → eqb n 0 ≡ false → ltb 0 n ≡ true
not-zero n e = lt-ltb 0 n (omega (arith, eqb-false n 0 e))
