-- The state's numbers as the engine that they keep, and as what they ask.
use Prim.Native.Nat.{ℕ, zero, suc, ◌+◌}
use native.Mathlib.Omega.{arith}
use mathlib.Core.Path.{◌≡◌, sym, ◌∙◌, ap}
use mathlib.Core.List.{List, ◌∷◌, ◌++◌}
use lib.ListN.{length, drop, drop_of_length-le}
use lib.Seq.{drop-cons}
use Rattle.steps.specs.declared.Engine.{Engine}
use Rattle.steps.specs.declared.Phase.{Phase}
use Rattle.steps.specs.declared.Phase.TheVariants.{Waiting, Settled}
use Rattle.numbers.proofs.Telling.{tells-unique}
use Rattle.state_numbers.specs.Kept.{number, nine, fifteen, Told}

-- So many numbers of an array from one on, and then others.
abbrev pub listed : ℕ → ℕ → List ℕ → List ℕ → List ℕ
listed zero i a rest = rest
listed (suc n) i a rest = number a i ∷ listed n (suc i) a rest

-- An array is its numbers, one by one.
pub listed-are : (n i : ℕ) (a rest : List ℕ) → i + n ≡ length a → drop i a ++ rest ≡ listed n i a rest
listed-are zero i a rest e = rw (drop_of_length-le a {i = i} (omega arith))
listed-are (suc n) i a rest e = rw (drop-cons a i 0 (omega arith)) (ap (λ (q : List ℕ). number a i ∷ q) (listed-are n (suc i) a rest (omega arith)))

-- At most one list of numbers keeps an engine.
pub told-unique : (e : Engine) (a : List ℕ) (p : Phase) {l l' : List ℕ} → Told e a p l → Told e a p l' → l ≡ l'
told-unique e a (Waiting s) h h' = h ∙ sym h'
told-unique e a (Settled x) h h' =
    h.2 ∙ ap (λ (told : List ℕ). fifteen told (e.last ∷ 0 ∷ 0 ∷ 0 ∷ nine a)) (tells-unique x h.1 h'.1) ∙ sym h'.2
