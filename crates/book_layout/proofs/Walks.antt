-- Laws of a walk through the entries of a book: the entry numbered i, and its log at index `at`.
use Prim.Native.Nat.{ℕ, zero, suc, ◌+◌, ◌-◌, ◌≤◌, ◌<◌}
use native.Mathlib.Nat.{sub-zero}
use native.Mathlib.Omega.{arith}
use mathlib.Core.Bool.{Bool, true, false, ◌&&◌}
use mathlib.Core.List.{List}
use mathlib.Core.Path.{◌≡◌, refl, sym, ◌∙◌, ap, ap₂, subst}
use lib.Dec.{leb, eqb}
use lib.ListN.{length, drop, length-drop}
use lib.Seq.{drop-drop}
use borrow.Author.Tests.{leb-true, leb-false, eq-eqb, ne_eqb}
use Rattle.rules.specs.Bytes.{u16_at, u32_at, every, is_byte}
use Rattle.bookkeeping.specs.Layout.{start, logs_from}
use Rattle.bookkeeping.specs.Book.{is_book}
use Rattle.bookkeeping.specs.Fields.{head_ok, entry_ok, entries_ok}
use Rattle.bookkeeping.proofs.Fields.{head-so, by-fields}

-- The logs that are said are as many as are asked for.
pub as_many : (d : List ℕ) (n : ℕ) (rest : List ℕ) → length (logs_from d n rest) ≡ n
as_many d zero rest = refl
as_many d (suc n) rest = ap suc (as_many (drop 8 d) n (drop (u16_at d 2) rest))

-- Whether nothing is left behind an index.
by_le : (x y : ℕ) → eqb (x - y) 0 ≡ leb x y
by_le x y = go (leb x y) refl
  where
    go : (t : Bool) → leb x y ≡ t → eqb (x - y) 0 ≡ leb x y
    go true e = eq-eqb (x - y) 0 (omega (arith, leb-true x y e)) ∙ sym e
    go false e = ne_eqb (x - y) 0 (λ z. omega (arith, leb-false x y e)) ∙ sym e

module _ (b : List ℕ) where
  abbrev pub size : ℕ → ℕ
  size i = u16_at (drop (start i) b) 2

  next : (i : ℕ) → drop 8 (drop (start i) b) ≡ drop (start (i + 1)) b
  next i =
      let on : start i + 8 ≡ start (i + 1) = omega arith in
      rw (drop-drop 8 (start i) b, on)

  -- The test of the entries that are left.
  abbrev pub left_ok : ℕ → ℕ → ℕ → Bool
  left_ok n i at = entries_ok (drop (start i) b) (n - i) at (drop at b)

  pub one_ok : (n i at : ℕ) → i < n → left_ok n i at ≡ (entry_ok (drop (start i) b) at (drop at b) && left_ok n (i + 1) (at + size i))
  one_ok n i at h =
      let more : n - i ≡ suc (n - (i + 1)) = omega arith in
      rw more (ap₂ (λ (d rest : List ℕ). entry_ok (drop (start i) b) at (drop at b) && entries_ok d (n - (i + 1)) (at + size i) rest) (next i) (drop-drop (size i) at b))

  pub none-ok : (n i at : ℕ) → n ≤ i → left_ok n i at ≡ leb (length b) at
  none-ok n i at h = let none : n - i ≡ 0 = omega arith in rw (none, length-drop) (by_le (length b) at)

  pub no-head : every is_byte b ≡ true → head_ok b ≡ false → is_book b ≡ false
  no-head bytes h = sym (by-fields b bytes) ∙ ap (λ (t : Bool). t && entries_ok (drop 20 b) (u16_at b 4) (u32_at b 12) (drop (start (u16_at b 4)) b)) h

  pub with-head : every is_byte b ≡ true → head_ok b ≡ true → left_ok (u16_at b 4) 0 (start (u16_at b 4)) ≡ is_book b
  with-head bytes h =
      let n = u16_at b 4 in
      let fields : (head_ok b && entries_ok (drop 20 b) n (u32_at b 12) (drop (start n) b)) ≡ is_book b = by-fields b bytes in
      rw sub-zero (subst (λ (x : ℕ). entries_ok (drop 20 b) n x (drop (start n) b) ≡ is_book b) (head-so b h).logs_at (rw h at fields))

  pub fails : (n i at : ℕ) → i < n → entry_ok (drop (start i) b) at (drop at b) ≡ false → left_ok n i at ≡ false
  fails n i at h e = one_ok n i at h ∙ rw e

  pub goes_on : (n i at : ℕ) → i < n → entry_ok (drop (start i) b) at (drop at b) ≡ true → left_ok n i at ≡ left_ok n (i + 1) (at + size i)
  goes_on n i at h e = one_ok n i at h ∙ rw e
