-- The data format byte of two methods that `new` gives.
use Prim.Native.Nat.{ℕ, ◌+◌, ◌*◌, ◌≤◌}
use native.Mathlib.Omega.{arith}
use mathlib.Core.Path.{◌≡◌}
use Rattle.wire.specs.Methods.{data_format}

-- "m = compression × 16 + encryption"
pub format-of-nibbles : (c e : ℕ) → c ≤ 15 → e ≤ 15 → data_format c e ≡ c * 16 + e
format-of-nibbles c e h k = omega arith
