-- One turn of a walk over records.
use mir.Val.{bool_byte}
use Prim.Native.Nat.{ℕ, zero, suc, ◌+◌, ◌-◌, ◌*◌, ◌≤◌, ◌<◌}
use native.Mathlib.Omega.{arith}
use native.Mathlib.Numerals.{add-one}
use mathlib.Core.Bool.{Bool, true, false, cond}
use mathlib.Core.Path.{◌≡◌, refl}
use mathlib.Core.List.{List, ◌∷◌}
use lib.ListN.{length, get_or}
use Rattle.rules.specs.Answers.{Part}
use Rattle.rules.specs.Faults.{record_at, records_from, shares, sharing, keep}
use Rattle.rules.proofs.Faults.{status-at}
use Rattle.faults.specs.Found.{found_of}
use Rattle.std.specs.Prelude.{Some}

-- What is selected of the records from i on.
abbrev pub left-of : ℕ → List ℕ → ℕ → ℕ → List Part
left-of mask bs n i = keep (sharing mask) (records_from bs (n - i) i)

length-of : (b : Bool) (x : Part) (l : List Part) → length (cond b (x ∷ l) l) ≡ bool_byte b + length l
length-of true x l = omega arith
length-of false x l = omega arith

found_here : (b : Bool) (x : Part) (l : List Part) (k : ℕ) → k < bool_byte b → found_of (cond b (x ∷ l) l) k ≡ Some x.at
found_here true x l zero h = refl
found_here true x l (suc k) h = absurd (omega arith)
found_here false x l k h = absurd (omega arith)

found-later : (b : Bool) (x : Part) (l : List Part) (k : ℕ) → bool_byte b ≤ k → found_of (cond b (x ∷ l) l) k ≡ found_of l (k - bool_byte b)
found-later true x l zero h = absurd (omega arith)
found-later true x l (suc k) h = let z : suc k - 1 ≡ k = omega arith in rw z
found-later false x l k h = let z : k - 0 ≡ k = omega arith in rw z

pub one-most : (b : Bool) → bool_byte b ≤ 1
one-most true = omega arith
one-most false = omega arith

module _ (mask : ℕ) (bs : List ℕ) (n i : ℕ) (more : i < n) where
  abbrev status : ℕ
  status = get_or bs (i * 4 + 3) 0

  turn : left-of mask bs n i ≡ cond (shares mask status) (record_at bs i ∷ left-of mask bs n (i + 1)) (left-of mask bs n (i + 1))
  turn = let z : n - i ≡ suc (n - (i + 1)) = omega arith in rw (z, add-one, status-at bs i)

  pub count_turn : {hit : Bool} → hit ≡ shares mask status → length (left-of mask bs n i) ≡ bool_byte hit + length (left-of mask bs n (i + 1))
  count_turn is = rw (turn, is) (length-of (shares mask status) (record_at bs i) (left-of mask bs n (i + 1)))

  module _ {hit : Bool} (is : hit ≡ shares mask status) where
    pub here : (k : ℕ) → k < bool_byte hit → found_of (left-of mask bs n i) k ≡ Some (i * 4)
    here k h = rw (turn, ← is) (found_here hit (record_at bs i) (left-of mask bs n (i + 1)) k h)

    pub later : (k : ℕ) → bool_byte hit ≤ k → found_of (left-of mask bs n i) k ≡ found_of (left-of mask bs n (i + 1)) (k - bool_byte hit)
    later k h = rw (turn, ← is) (found-later hit (record_at bs i) (left-of mask bs n (i + 1)) k h)
