-- The loop over a row of checks: what is told of those from index i on.
use Prim.Native.Nat.{ℕ, ◌+◌, ◌≤◌, ◌<◌}
use native.Mathlib.Numerals.{add-one}
use mathlib.Core.Bool.{true, false}
use mathlib.Core.List.{List, [], ◌∷◌, ◌++◌, map, append_assoc, append-nil}
use mathlib.Core.Path.{◌≡◌, refl, sym, ◌∙◌, ap}
use lib.Dec.{eqb}
use lib.ListN.{length, get_or, drop, drop_of_length-le}
use lib.Seq.{drop-cons}
use Rattle.telling.specs.Checks.{check_line}
use Rattle.text.specs.Written.{Adds}
use Rattle.text.proofs.Adding.{both, nothing, saying}
use Rattle.story_checks.specs.declared.Check.{Check}
use Rattle.story_checks.specs.Coded.{number, wanted_of, finding, told_by}

-- What is told of a row of which this fault was found.
abbrev pub row : List Check → ℕ → List ℕ
row checks failed = told_by (map number checks) failed

-- What was written is the front of what is to be told; the rest is told from index i on.
pub record Rowing (checks : List Check) (failed : ℕ) (l : List ℕ) (at n : ℕ) (m : List ℕ) (i : ℕ) : Type 0 where
  pub done : List ℕ
  pub put : Adds done l at n m
  pub left : done ++ row (drop i checks) failed ≡ row checks failed

pub first : (checks : List Check) (failed : ℕ) (l : List ℕ) (at : ℕ) → Rowing checks failed l at at l 0
first checks failed l at = record { done = []; put = nothing l at; left = refl }

module _ {checks : List Check} {failed : ℕ} {l m : List ℕ} {at n i : ℕ} (w : Rowing checks failed l at n m i) where
  from_next : (d : Check) → i < length checks → row (drop i checks) failed ≡ row (get_or checks i d ∷ drop (i + 1) checks) failed
  from_next d inside = rw (add-one, drop-cons checks i d inside)

  -- A check that passed.
  pub passes : {o : List ℕ} {r : ℕ} (d : Check) → i < length checks → let k = number (get_or checks i d) in eqb (finding k) failed ≡ false →
      Adds (check_line (wanted_of k) true) m n r o → Rowing checks failed l at r o (i + 1)
  unfolding told_by
  passes d inside e p =
      let line : List ℕ = check_line (wanted_of (number (get_or checks i d))) true in
      let told : row (drop i checks) failed ≡ line ++ row (drop (i + 1) checks) failed = from_next d inside ∙ rw e in
      record {
        done = w.done ++ line;
        put = both w.put p;
        left = append_assoc w.done line _ ∙ ap (λ (x : List ℕ). w.done ++ x) (sym told) ∙ w.left;
      }

  -- The one that failed, which ends the row.
  pub fails : {o : List ℕ} {r : ℕ} (d : Check) → i < length checks → let k = number (get_or checks i d) in eqb (finding k) failed ≡ true →
      Adds (check_line (wanted_of k) false) m n r o → Adds (row checks failed) l at r o
  unfolding told_by
  fails d inside e p =
      let told : row (drop i checks) failed ≡ check_line (wanted_of (number (get_or checks i d))) false = from_next d inside ∙ rw e in
      saying (ap (λ (x : List ℕ). w.done ++ x) (sym told) ∙ w.left) (both w.put p)

  -- All passed.
  pub all-passed : length checks ≤ i → Adds (row checks failed) l at n m
  unfolding told_by
  all-passed past =
      let none_left : drop i checks ≡ [] = drop_of_length-le checks past in
      saying (sym (append-nil w.done) ∙ ap (λ (x : List Check). w.done ++ row x failed) (sym none_left) ∙ w.left) w.put
