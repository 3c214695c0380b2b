-- Whether a word is another, as code compares them.
use Rattle.std.specs.Prelude.{ℕ, eqb}
use mathlib.Core.Bool.{Bool, false, ◌&&◌}
use mathlib.Core.List.{List, [], ◌∷◌}
use mathlib.Core.Path.{◌≡◌, refl, sym, ◌∙◌, ap}
use lib.Pointwise.{pointwise}
use Rattle.rules.specs.Bytes.{same}

pub same_is : (w t : List ℕ) → same w t ≡ pointwise eqb w t
same_is [] [] = refl
same_is [] (y ∷ t) = refl
same_is (x ∷ w) [] = refl
same_is (x ∷ w) (y ∷ t) = ap (λ b. eqb x y && b) (same_is w t)

pub another : {r : Bool} → (w s t : List ℕ) → r ≡ pointwise eqb w s → s ≡ t → r ≡ false → same w t ≡ false
another w s t is e failed = same_is w t ∙ ap (pointwise eqb w) (sym e) ∙ sym is ∙ failed
