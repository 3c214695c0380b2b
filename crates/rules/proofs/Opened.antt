-- Lists of bytes opened at the front, bytes below 256, and the list forms of the tests on them.
use Prim.Native.Nat.{ℕ, zero, suc, ◌≤◌, ◌<◌}
use native.Mathlib.Omega.{arith}
use mathlib.Core.Bool.{true, cond, false≢true}
use mathlib.Core.Path.{◌≡◌, refl, ◌∙◌, ap, ap₂}
use mathlib.Core.Logic.{◌⊎◌, inl, inr}
use mathlib.Core.List.{List, [], ◌∷◌}
use lib.Dec.{eqb}
use lib.ListN.{length, get_or, take, drop}
use lib.Seq.{drop-cons, take_all, take-nil}
use borrow.Author.Tests.{ltb-true, eqb-true, eq-eqb}
use Rattle.rules.specs.Bytes.{same, every, is_byte}
use Rattle.rules.proofs.Judging.{both}

module _ (r : List ℕ) where
  pub opened1 : 1 ≤ length r → r ≡ get_or r 0 0 ∷ drop 1 r
  opened1 h = drop-cons r 0 0 h

  pub opened2 : 2 ≤ length r → r ≡ get_or r 0 0 ∷ get_or r 1 0 ∷ drop 2 r
  opened2 h = opened1 (omega arith) ∙ ap (λ (l : List ℕ). get_or r 0 0 ∷ l) (drop-cons r 1 0 h)

  pub opened3 : 3 ≤ length r → r ≡ get_or r 0 0 ∷ get_or r 1 0 ∷ get_or r 2 0 ∷ drop 3 r
  opened3 h = opened2 (omega arith) ∙ ap (λ (l : List ℕ). get_or r 0 0 ∷ get_or r 1 0 ∷ l) (drop-cons r 2 0 h)

  pub opened4 : 4 ≤ length r → r ≡ get_or r 0 0 ∷ get_or r 1 0 ∷ get_or r 2 0 ∷ get_or r 3 0 ∷ drop 4 r
  opened4 h = opened3 (omega arith) ∙ ap (λ (l : List ℕ). get_or r 0 0 ∷ get_or r 1 0 ∷ get_or r 2 0 ∷ l) (drop-cons r 3 0 h)

pub empty : (l : List ℕ) → length l ≡ 0 → l ≡ []
empty [] e = refl
empty (x ∷ l) e = absurd (omega arith)

pub same_true : (a b : List ℕ) → same a b ≡ true → a ≡ b
same_true [] [] e = refl
same_true [] (y ∷ b) e = absurd (false≢true e)
same_true (x ∷ a) [] e = absurd (false≢true e)
same_true (x ∷ a) (y ∷ b) e = let h = both (eqb x y) (same a b) e in ap₂ (λ (z : ℕ) (l : List ℕ). z ∷ l) (eqb-true x y h.0) (same_true a b h.1)

pub same_self : (a : List ℕ) → same a a ≡ true
same_self [] = refl
same_self (x ∷ a) = rw (eq-eqb x x refl) (same_self a)

pub byte_at : (r : List ℕ) → every is_byte r ≡ true → (i : ℕ) → get_or r i 0 < 256
byte_at [] e i = omega arith
byte_at (x ∷ r) e zero = ltb-true x 256 (both (is_byte x) (every is_byte r) e).0
byte_at (x ∷ r) e (suc i) = byte_at r (both (is_byte x) (every is_byte r) e).1 i

-- Data of n bytes or of none is handed out whole where only n bytes are.
pub only-all : (n : ℕ) (d : List ℕ) → (length d ≡ n) ⊎ (length d ≡ 0) → take (cond (eqb (length d) n) n 0) d ≡ d
only-all n d (inl e) = rw (eq-eqb (length d) n e) (take_all n d (omega arith))
only-all n d (inr e) = rw (empty d e) (take-nil (cond (eqb 0 n) n 0))
