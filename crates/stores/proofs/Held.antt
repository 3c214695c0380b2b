-- Where a part of the memory stands: what a distance tells, and each way to be outside.
use Rattle.std.specs.Prelude.{Some, None}
use Prim.Native.Nat.{ℕ, ◌+◌, ◌-◌, ◌≤◌, ◌<◌}
use native.Mathlib.Omega.{arith}
use mathlib.Core.Bool.{Bool, true, false, cond, ◌&&◌}
use mathlib.Core.Path.{◌≡◌, refl}
use mathlib.Core.List.{List}
use borrow.Author.Tests.{le-leb, lt-leb, leb-true, leb-false}
use lib.Dec.{leb}
use lib.ListN.{length}
use Rattle.rules.specs.Bytes.{u16_at}
use Rattle.rules.specs.Logs.{area}
use Rattle.bench.specs.Stores.{store_of}
use Rattle.stores.specs.Places.{span, offset_of, held_in}

-- The memory as the code reads it.
pub held-of : (l : List ℕ) {p : List ℕ} {at n : ℕ} → p ≡ area l at n → at ≡ u16_at l 28 → n ≡ u16_at l 26 → length p ≡ length (store_of l).memory
unfolding store_of
held-of l is at many = rw (is, at, many)

module _ (l : List ℕ) (address size : ℕ) {first held : ℕ} (from : first ≡ (store_of l).first) (many : held ≡ length (store_of l).memory) where
  pub empty : size < 1 → None ≡ held_in l address size
  unfolding held_in
  empty h = rw (lt-leb 1 size h)

  before : address < first → None ≡ held_in l address size
  unfolding held_in
  before h = rw (← from, lt-leb first address h) (go (leb 1 size))
    where
      go : (b : Bool) → None ≡ cond (b && false) (Some (span (u16_at l 28 + (address - first)) size)) None
      go true = refl
      go false = refl

  pub outside : {n : ℕ} → n ≡ address - first → first ≤ address → held < n + size → None ≡ held_in l address size
  unfolding held_in
  outside e h k =
      rw (← from, ← many, le-leb first address h, lt-leb (address + size) (first + held) (omega arith)) (go (leb 1 size))
    where
      go : (b : Bool) → None ≡ cond (b && false) (Some (span (u16_at l 28 + (address - first)) size)) None
      go true = refl
      go false = refl

  -- No memory reaches so far.
  pub far-outside : held ≤ 65535 → None ≡ offset_of address first → None ≡ held_in l address size
  unfolding offset_of
  far-outside few e = go (leb first address) (leb (address - first) 65535) refl refl e
    where
      go : (a b : Bool) → leb first address ≡ a → leb (address - first) 65535 ≡ b → None ≡ cond a (cond b (Some (address - first)) None) None → None ≡ held_in l address size
      go true true p q e = cc
      go true false p q e = outside refl (leb-true first address p) (omega (arith, leb-false (address - first) 65535 q))
      go false b p q e = before (leb-false first address p)

  pub within : {at n : ℕ} → n ≡ address - first → first ≤ address → at ≡ u16_at l 28 → 1 ≤ size → n + size ≤ held → Some (span (at + n) size) ≡ held_in l address size
  unfolding held_in
  within e h is low fits = rw (← from, ← many, le-leb 1 size low, le-leb first address h, le-leb (address + size) (first + held) (omega arith), is, e)

-- How far an address lies behind the first, where it is near.
pub near-told : (address first : ℕ) {n : ℕ} → Some n ≡ offset_of address first → (first ≤ address) × (n ≡ address - first)
unfolding offset_of
near-told address first {n} e = go (leb first address) (leb (address - first) 65535) refl e
  where
    go : (a b : Bool) → leb first address ≡ a → Some n ≡ cond a (cond b (Some (address - first)) None) None → (first ≤ address) × (n ≡ address - first)
    go true true p e = (leb-true first address p, cc)
    go true false p e = cc
    go false b p e = cc
