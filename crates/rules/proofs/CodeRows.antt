-- The rows for negative codes, by computing.
use mathlib.Core.Path.{refl}
use Rattle.rules.specs.CodeRows.{numbers, CodeRows}

pub code-rows-hold : CodeRows
unfolding numbers
code-rows-hold = refl
