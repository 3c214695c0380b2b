-- What the selector answers: where the k-th selected record begins.
use Rattle.std.specs.Prelude.{ℕ, zero, suc, List, [], ◌∷◌, Option, Some, None}
use Rattle.rules.specs.Answers.{Part}

abbrev pub found_of : List Part → ℕ → Option ℕ
found_of [] k = None
found_of (p ∷ ps) zero = Some p.at
found_of (p ∷ ps) (suc k) = found_of ps k
