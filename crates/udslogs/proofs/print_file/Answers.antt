-- Where `print_file` closes nothing whole is held.
use Rattle.std.proofs.Common.{sym, ◌∙◌}
use Rattle.udslogs.proofs.Holding.{waits-at-end}
use Rattle.udslogs.proofs.print_file.Goals as goal

pub print_end-requires : goal.print_end-requires
print_end-requires g c =
    waits-at-end c.in_ok-run.ensures.0 c.if-run.true
    (c.loop.invariant.2 ∙ sym c.print_lines.auto.out)
    (c.loop.invariant.3 ∙ sym c.print_lines.auto.said)
    c.in_ok-run-2.ensures.0 c.if-run-2.true
