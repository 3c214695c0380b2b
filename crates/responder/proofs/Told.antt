-- What `stores` tells of a record and of the memory, in the definition's words.
use Prim.Native.Nat.{ℕ, ◌+◌, ◌-◌, ◌≤◌}
use native.Mathlib.Omega.{arith}
use mathlib.Core.Bool.{Bool, true, false, cond, ◌&&◌}
use mathlib.Core.Path.{◌≡◌, refl, sym, ◌∙◌, ap, ap₂}
use mathlib.Core.List.{List}
use borrow.Author.Tests.{leb-true}
use lib.Dec.{leb}
use lib.ListN.{length}
use Rattle.rules.specs.Bytes.{u16_at}
use Rattle.rules.specs.Logs.{area}
use Rattle.rules.proofs.Judging.{both}
use Rattle.bench.specs.Stores.{Slot, records_at, store_of, slot_of, known, record_of, inside, memory_at}
use Rattle.bench.proofs.Bytes.{part_length}
use Rattle.bench.proofs.Shows.{known-inside}
use Rattle.std.specs.Prelude.{Some, None}
use Rattle.stores.specs.declared.Place.{Place}
use Rattle.stores.specs.Places.{span, record_in, held_in}
use Rattle.stores.proofs.Areas.{area-area}

module _ (l : List ℕ) (id : ℕ) where
  abbrev e : Slot
  e = slot_of (store_of l) id

  pub unknown : None ≡ record_in l id → known (store_of l) e ≡ false
  unfolding record_in
  unknown h = go (known (store_of l) e) h
    where
      go : (b : Bool) → None ≡ cond b (Some (span (records_at l + e.offset) e.size)) None → b ≡ false
      go true k = cc
      go false k = refl

  -- A record that is known, and where it stands.
  pub record Standing (p : Place) : Type 0 where
    pub is_known : known (store_of l) e ≡ true
    pub place : p.at ≡ records_at l + e.offset
    pub size : p.size ≡ e.size

  pub standing : {p : Place} → Some p ≡ record_in l id → Standing p
  unfolding record_in
  standing {p} h = go (known (store_of l) e) refl h
    where
      go : (b : Bool) → known (store_of l) e ≡ b → Some p ≡ cond b (Some (span (records_at l + e.offset) e.size)) None → Standing p
      go true is k = let same : p ≡ span (records_at l + e.offset) e.size = cc in record { is_known = is; place = ap (λ (x : Place). x.at) same; size = ap (λ (x : Place). x.size) same }
      go false is k = cc

  module _ {p : Place} (s : Standing p) where
    pub record_is : area l p.at p.size ≡ record_of (store_of l) e
    unfolding store_of
    record_is =
        let i = known-inside (store_of l) e s.is_known in
        ap₂ (λ (x y : ℕ). area l x y) s.place s.size ∙ sym (area-area l (records_at l) (u16_at l 22) e.offset e.size i.inside)

    pub record-long : length (record_of (store_of l) e) ≡ p.size
    record-long = let i = known-inside (store_of l) e s.is_known in part_length (store_of l).records e.offset e.size i.inside ∙ sym s.size

module _ (l : List ℕ) (address size : ℕ) where
  pub no-memory : None ≡ held_in l address size → (leb 1 size && inside (store_of l) address size) ≡ false
  unfolding held_in
  no-memory h = go (leb 1 size && inside (store_of l) address size) h
    where
      go : (b : Bool) → None ≡ cond b (Some (span (u16_at l 28 + (address - (store_of l).first)) size)) None → b ≡ false
      go true k = cc
      go false k = refl

  pub record Remembered (p : Place) : Type 0 where
    pub is_held : (leb 1 size && inside (store_of l) address size) ≡ true
    pub place : p.at ≡ u16_at l 28 + (address - (store_of l).first)
    pub as_many : p.size ≡ size

  pub remembered : {p : Place} → Some p ≡ held_in l address size → Remembered p
  unfolding held_in
  remembered {p} h = go (leb 1 size && inside (store_of l) address size) refl h
    where
      go : (b : Bool) → (leb 1 size && inside (store_of l) address size) ≡ b → Some p ≡ cond b (Some (span (u16_at l 28 + (address - (store_of l).first)) size)) None → Remembered p
      go true is k = let same : p ≡ span (u16_at l 28 + (address - (store_of l).first)) size = cc in record { is_held = is; place = ap (λ (x : Place). x.at) same; as_many = ap (λ (x : Place). x.size) same }
      go false is k = cc

  module _ {p : Place} (s : Remembered p) where
    held_fits : address - (store_of l).first + size ≤ length (store_of l).memory
    held_fits =
        let i = (both (leb 1 size) (inside (store_of l) address size) s.is_held).1 in
        let k = both (leb (store_of l).first address) (leb (address + size) ((store_of l).first + length (store_of l).memory)) i in
        let low = leb-true (store_of l).first address k.0 in
        let high = leb-true (address + size) ((store_of l).first + length (store_of l).memory) k.1 in
        omega arith

    pub memory-is : area l p.at p.size ≡ memory_at (store_of l) address size
    unfolding store_of
    memory-is =
        ap₂ (λ (x y : ℕ). area l x y) s.place s.as_many ∙ sym (area-area l (u16_at l 28) (u16_at l 26) (address - (store_of l).first) size held_fits)

    pub memory-long : length (memory_at (store_of l) address size) ≡ p.size
    memory-long = part_length (store_of l).memory (address - (store_of l).first) size held_fits ∙ sym s.as_many
