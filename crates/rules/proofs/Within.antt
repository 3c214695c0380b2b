-- Laws of the limit of notices.
use Prim.Native.Nat.{ℕ, suc, ◌≤◌}
use native.Mathlib.Omega.{arith}
use mathlib.Core.Bool.{true}
use mathlib.Core.Path.{◌≡◌, refl}
use mathlib.Core.Option.{Option, none, some}
use borrow.Author.Tests.{ltb-true, lt-ltb}
use Rattle.rules.specs.Exchange.{allows}
use Rattle.rules.specs.Settings.{Within}

pub within-less : (l : Option ℕ) (n m : ℕ) → n ≤ m → Within l m → Within l n
within-less none n m h w = tt
within-less (some k) n m h w = omega arith

pub within-zero : (l : Option ℕ) → Within l 0
within-zero none = tt
within-zero (some k) = omega arith

-- A notice is allowed exactly where one more is within the limit.
pub within-allows : (l : Option ℕ) (n : ℕ) → Within l (suc n) → allows l n ≡ true
within-allows none n w = refl
within-allows (some k) n w = lt-ltb n k (omega arith)

pub allows-within : (l : Option ℕ) (n : ℕ) → allows l n ≡ true → Within l (suc n)
allows-within none n e = tt
allows-within (some k) n e = let h = ltb-true n k e in omega arith
