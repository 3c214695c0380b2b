-- `line_door::bintrochis_door_line` meets its contract.
use Rattle.line_door.proofs.Lines.{lined}
use Rattle.line_door.proofs.bintrochis_door_line.Goals as goal

pub returns : goal.returns
returns c = rw c.unwrap_or.ensures (lined c.line_of.ensures)
