-- The walk over a store's identifiers.
use Prim.Native.Nat.{ℕ, zero, suc, ◌+◌, ◌-◌, ◌*◌, ◌≤◌, ◌<◌}
use native.Mathlib.Omega.{arith}
use mathlib.Core.Bool.{Bool, ◌&&◌}
use mathlib.Core.Path.{◌≡◌, refl, sym, ◌∙◌, ap}
use mathlib.Core.List.{List, ◌∷◌}
use mathlib.Core.Logic.{◌≢◌}
use borrow.Author.Tests.{eq-eqb, ne_eqb}
use Rattle.std.specs.List.{list_all, range_with_len}
use Rattle.rules.specs.Bytes.{u16_at, every}
use Rattle.bench.specs.Stores.{Slot, slot, slots_from, store_of, find}
use Rattle.stores.specs.Places.{slot_in}

module _ (l : List ℕ) where
  -- What is left from the identifier numbered i on.
  unfoldable pub left : ℕ → List Slot
  left i = slots_from l (u16_at l 18 - i) (u16_at l 20 + i * 6)

  pub all_left : left 0 ≡ (store_of l).slots
  unfolding left store_of
  all_left = grind arith

  pub turn : (i : ℕ) → i < u16_at l 18 → left i ≡ slot_in l i ∷ left (i + 1)
  unfolding left slots_from
  turn i h =
      let n : u16_at l 18 - i ≡ suc (u16_at l 18 - (i + 1)) = omega arith in
      let k : u16_at l 20 + i * 6 + 6 ≡ u16_at l 20 + (i + 1) * 6 = omega arith in
      rw n (ap (λ (j : ℕ). slot_in l i ∷ slots_from l (u16_at l 18 - (i + 1)) j) k)

  module _ (i : ℕ) (more : i < u16_at l 18) where
    pub hits : (id : ℕ) → (slot_in l i).id ≡ id → find (left i) id ≡ slot_in l i
    hits id e = ap (λ (es : List Slot). find es id) (turn i more) ∙ rw (eq-eqb (slot_in l i).id id e) refl

    pub misses : (id : ℕ) → (slot_in l i).id ≢ id → find (left i) id ≡ find (left (i + 1)) id
    misses id e = ap (λ (es : List Slot). find es id) (turn i more) ∙ rw (ne_eqb (slot_in l i).id id e) refl

  pub unfound : (i : ℕ) → u16_at l 18 ≤ i → (id : ℕ) → find (left i) id ≡ slot id 0 0
  unfolding left slots_from
  unfound i h id = let n : u16_at l 18 - i ≡ 0 = omega arith in rw n

  all_from : (test : Slot → Bool) (i n : ℕ) → list_all (λ (k : ℕ). test (slot_in l k)) (range_with_len i n) ≡ every test (slots_from l n (u16_at l 20 + i * 6))
  unfolding slots_from
  all_from test i zero = refl
  all_from test i (suc n) =
      let k : u16_at l 20 + i * 6 + 6 ≡ u16_at l 20 + (i + 1) * 6 = omega arith in
      ap (λ (b : Bool). test (slot_in l i) && b) (all_from test (i + 1) n ∙ ap (λ (j : ℕ). every test (slots_from l n j)) (sym k))

  -- A test of all identifiers by their numbers.
  pub all_numbered : (test : Slot → Bool) → list_all (λ (k : ℕ). test (slot_in l k)) (range_with_len 0 (u16_at l 18)) ≡ every test (store_of l).slots
  unfolding store_of
  all_numbered test = rw (all_from test 0 (u16_at l 18)) (let z : u16_at l 20 + 0 * 6 ≡ u16_at l 20 = omega arith in rw z)
