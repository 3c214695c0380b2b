-- `print_lines` meets its contract.
use Rattle.std.proofs.Common.{subst}
use Rattle.std.specs.Io.KnownBytes.{Appends}
use Rattle.udslogs.proofs.Holding.{printed}
use Rattle.udslogs.proofs.print_lines.Goals as goal

pub returns : goal.returns
returns g c =
    printed c.args.run c.args.input.now c.part.result.now _ _ c.lines-b.result (Appends _ _) (Appends _ _) c.requires c.part.ensures c.lines-b.ensures
    (subst (Appends _ _) c.part-2.ensures c.in_ok-write_full.ensures)
    (subst (Appends _ _) c.part-3.ensures c.in_ok-write_full-2.ensures)
