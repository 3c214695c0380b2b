-- An address of any length: its last eight bytes and those before them; and how far it lies behind the memory's first.
use Rattle.std.specs.Prelude.{Some, None, Result, Ok, Err}
use Rattle.std.specs.Result.{OkIff, result_ok}
use Prim.Native.Nat.{ℕ, suc, ◌+◌, ◌-◌, ◌*◌, ◌^◌, ◌≤◌, ◌<◌}
use native.Mathlib.Nat.{pow-suc, pow-le-pow_right}
use native.Mathlib.Omega.{arith}
use mathlib.Core.Bool.{Bool, true, false}
use mathlib.Core.Path.{◌≡◌, refl, sym, ◌∙◌, ap}
use mathlib.Core.List.{List, [], ◌∷◌, ◌++◌}
use borrow.Author.Tests.{le-leb, lt-leb, leb-true, leb-false}
use lib.Dec.{leb}
use lib.ListN.{length, get_or, take, drop, length-drop, take-append-drop}
use lib.Seq.{get_or-drop}
use Rattle.rules.specs.Bytes.{value, value_from}
use Rattle.stores.specs.Places.{near_of, offset_of}

module _ (address first : ℕ) where
  pub before : address < first → None ≡ offset_of address first
  unfolding offset_of
  before h = rw (lt-leb first address h)

  pub behind : first ≤ address → near_of (address - first) ≡ offset_of address first
  unfolding offset_of
  behind h = rw (le-leb first address h)

  -- Far above any memory.
  pub beyond : first + 65535 < address → None ≡ offset_of address first
  beyond h = rw (lt-leb (address - first) 65535 (omega arith)) at (behind (omega arith))

-- Bytes are read on from what stands before them.
joined : (v : ℕ) (a b : List ℕ) → value_from v (a ++ b) ≡ value_from (value_from v a) b
joined v [] b = refl
joined v (x ∷ a) b = joined (v * 256 + x) a b

-- One byte more in front of p · b.
in-front : (v x p b whole rest : ℕ) → whole ≡ (v * 256 + x) * p + b → rest ≡ (0 * 256 + x) * p + b → whole ≡ v * (p * 256) + rest
in-front v x p b whole rest h k = omega arith

shifted : (v : ℕ) (b : List ℕ) → value_from v b ≡ v * 256 ^ length b + value b
shifted v [] = omega arith
shifted v (x ∷ b) =
    rw (pow-suc 256 (length b))
    (in-front v x (256 ^ length b) (value b) (value_from v (x ∷ b)) (value (x ∷ b)) (shifted (v * 256 + x) b) (shifted (0 * 256 + x) b))

-- The last eight bytes of an address, and those before them.
module _ (l : List ℕ) where
  abbrev at : ℕ
  at = length l - 8

  pub halves : value l ≡ value (take at l) * 18446744073709551616 + value (drop at l)
  halves =
      go (leb 8 (length l)) refl (length-drop at l) (ap value (sym (take-append-drop at l)) ∙ joined 0 (take at l) (drop at l) ∙ shifted (value (take at l)) (drop at l))
    where
      go : (b : Bool) → leb 8 (length l) ≡ b → length (drop at l) ≡ length l - at → value l ≡ value (take at l) * 256 ^ length (drop at l) + value (drop at l)
          → value l ≡ value (take at l) * 18446744073709551616 + value (drop at l)
      go true e long split =
          let h = leb-true 8 (length l) e in
          let eight : length (drop at l) ≡ 8 = omega arith in
          rw eight at split
      go false e long split =
          let h = leb-false 8 (length l) e in
          let none : at ≡ 0 = omega arith in
          rw none (omega arith)

-- Eight bytes stay below 2^64.
below : (k v : ℕ) (l : List ℕ) → v < 256 ^ k → ((i : ℕ) → get_or l i 0 < 256) → value_from v l < 256 ^ (k + length l)
below k v [] h bytes = let z : k + 0 ≡ k = omega arith in rw z h
below k v (x ∷ l) h bytes =
    let p : ℕ = 256 ^ k in
    let power = pow-suc 256 k in
    let next = below (suc k) (v * 256 + x) l (omega (arith, bytes 0)) (λ i. bytes (suc i)) in
    let same : suc k + length l ≡ k + suc (length l) = omega arith in
    rw (← same) next

pub eight-below : (l : List ℕ) → length l ≤ 8 → ((i : ℕ) → get_or l i 0 < 256) → value l < 18446744073709551616
eight-below l h bytes =
    let z : 0 + length l ≡ length l = omega arith in
    let b = below 0 0 l (omega arith) bytes in
    let p = pow-le-pow_right {n = 256} (omega arith) {i = 0 + length l} {j = 8} (omega arith) in
    omega arith

-- The last eight are never above 64 bits.
pub last-below : (l : List ℕ) → ((i : ℕ) → get_or l i 0 < 256) → value (drop (length l - 8) l) < 18446744073709551616
last-below l bytes = eight-below (drop (length l - 8) l) (omega (arith, length-drop (length l - 8) l)) (λ i. rw (get_or-drop (length l - 8) l i 0) (bytes (length l - 8 + i)))

-- An address in two.
module _ (l : List ℕ) {front back : List ℕ} {n : ℕ} (is : n ≡ length l - 8) (f : front ≡ take n l) (b : back ≡ drop n l) where
  pub parts : value l ≡ value front * 18446744073709551616 + value back
  parts = rw (f, b, is) (halves l)

  pub back-below : ((i : ℕ) → get_or l i 0 < 256) → value back < 18446744073709551616
  back-below bytes = rw (b, is) (last-below l bytes)

-- A distance that two bytes hold.
pub near : {E : Type 0} (r : Result ℕ E) (v : ℕ) → OkIff r (v < 65536) v → result_ok r ≡ near_of v
near (Ok x) v h = rw (le-leb v 65535 (omega (arith, h.0))) (ap Some h.1)
near (Err d) v h = rw (lt-leb v 65535 (omega (arith, h)))
