-- The lines of a text.
use Rattle.std.specs.Prelude.{ℕ, cond, List, [], ◌∷◌, ◌++◌, eqb}

-- "Bytes after the last LF are a line unless there are none": the lines of a text, of which the bytes l of a line stand before t.
unfoldable pub lines_from : List ℕ → List ℕ → List (List ℕ)
lines_from [] [] = []
lines_from (x ∷ l) [] = (x ∷ l) ∷ []
lines_from l (c ∷ t) = cond (eqb c 10) (l ∷ lines_from [] t) (lines_from (l ++ (c ∷ [])) t)

abbrev pub lines : List ℕ → List (List ℕ)
lines t = lines_from [] t
