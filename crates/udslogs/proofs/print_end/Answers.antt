-- `print_end` meets its contract.
use Rattle.std.proofs.Common.{subst}
use Rattle.std.specs.Io.KnownBytes.{Appends}
use Rattle.streams.proofs.Ends.{on_ok}
use Rattle.udslogs.proofs.Holding.{closed}
use Rattle.udslogs.proofs.print_end.Goals as goal

pub returns : goal.returns
returns g c =
    on_ok c.write_full-2.result
    (λ told.
    closed c.args.run c.args.input.now c.part.result.now _ _ _ _ c.end-r.result (Appends _ _) (Appends _ _) c.part.ensures c.end-r.ensures
    (subst (Appends _ _) c.part-2.ensures c.in_ok-write_full.ensures)
    (subst (Appends _ _) c.part-3.ensures told))
    c.write_full-2.ensures
