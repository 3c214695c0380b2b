-- `off_field::first_row` meets its contract: none of the rows so far is off.
use mathlib.Core.Path.{◌≡◌}
use lib.ListN.{drop}
use Rattle.off_field.specs.Numbers.{first_row}
use Rattle.off_field.proofs.first_row.Given as goal

abbrev pub invariant-loop-row : goal.invariant-loop-row
invariant-loop-row l = first_row l.rows ≡ first_row (drop l.row-index l.rows)
