-- Parts of byte strings, and whether two are the same.
use Prim.Native.Nat.{ℕ, zero, suc, ◌+◌, ◌≤◌, ◌<◌}
use native.Mathlib.Numerals.{add-one}
use native.Mathlib.Omega.{arith}
use mathlib.Core.Bool.{Bool, true, ◌&&◌}
use mathlib.Core.List.{List, [], ◌∷◌}
use mathlib.Core.Path.{◌≡◌, refl, ap}
use lib.Dec.{eqb}
use lib.ListN.{length, get_or, take, drop, length-drop, drop_of_length-le}
use lib.Seq.{take_all, take-nil, drop-cons, drop-drop}
use Rattle.rules.specs.Bytes.{same}

pub tail : (i : ℕ) (l : List ℕ) → take (length l) (drop i l) ≡ drop i l
tail i l = take_all (length l) (drop i l) (omega (arith, length-drop i l))

-- A part of a part stands in the whole.
front : (m n : ℕ) (l : List ℕ) → take (length (take m (take n l))) l ≡ take m (take n l)
front zero n l = refl
front (suc m) zero l = refl
front (suc m) (suc n) [] = refl
front (suc m) (suc n) (x ∷ l) = ap (λ (r : List ℕ). x ∷ r) (front m n l)

inner : (m k n : ℕ) (l : List ℕ) → take (length (take m (drop k (take n l)))) (drop k l) ≡ take m (drop k (take n l))
inner m zero n l = front m n l
inner m (suc k) zero l = rw (take-nil {A = ℕ} m)
inner m (suc k) (suc n) [] = rw (take-nil {A = ℕ} m)
inner m (suc k) (suc n) (x ∷ l) = inner m k n l

pub part-of-part : (m k n at : ℕ) (l : List ℕ)
    → take (length (take m (drop k (take n (drop at l))))) (drop (at + k) l) ≡ take m (drop k (take n (drop at l)))
part-of-part m k n at l = rw (← drop-drop k at l) (inner m k n (drop at l))

module _ (i : ℕ) (a b : List ℕ) where
  pub same_step : (t : Bool) → eqb (get_or a i 0) (get_or b i 0) ≡ t → i < length a → i < length b
      → same (drop i a) (drop i b) ≡ (t && same (drop (i + 1) a) (drop (i + 1) b))
  same_step t e h k = rw (drop-cons a i 0 h, drop-cons b i 0 k, add-one, e)

  pub same_end : length a ≤ i → length b ≤ i → same (drop i a) (drop i b) ≡ true
  same_end h k = rw (drop_of_length-le a h, drop_of_length-le b k)
