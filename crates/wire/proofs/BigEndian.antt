-- Numbers as bytes, high byte first: what `to_be_bytes` of the library is in the words of `rules`.
use Rattle.std.specs.Int.{to_be_bytes, w16, w32}
use Prim.Native.Nat.{ℕ, ◌<◌, ◌^◌, ◌/◌, ◌%◌}
use native.Mathlib.Omega.{arith}
use mathlib.Core.List.{[], ◌∷◌}
use mathlib.Core.Path.{◌≡◌}
use Rattle.rules.specs.Bytes.{two, four}

pub two_bytes : (n : ℕ) → n < 2 ^ 16 → to_be_bytes w16 n ≡ two n
two_bytes n h =
    let high : n / 256 % 256 ≡ n / 256 = omega arith in
    λ i. high i ∷ n % 256 ∷ []

pub four_bytes : (n : ℕ) → n < 2 ^ 32 → to_be_bytes w32 n ≡ four n
four_bytes n h =
    let a : n / 16777216 % 256 ≡ n / 65536 / 256 = omega arith in
    let b : n / 65536 % 256 ≡ n / 65536 % 256 = omega arith in
    let c : n / 256 % 256 ≡ n % 65536 / 256 = omega arith in
    let d : n % 256 ≡ n % 65536 % 256 = omega arith in
    λ i. a i ∷ b i ∷ c i ∷ d i ∷ []
