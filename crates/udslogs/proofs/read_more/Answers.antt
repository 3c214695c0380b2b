-- `read_more` meets its contract.
use Rattle.std.proofs.Common.{arith}
use Rattle.std.specs.Io.KnownBytes.{Consumes}
use Rattle.udslogs.proofs.Holding.{moved, read}
use Rattle.udslogs.proofs.read_more.Goals as goal

pub returns : goal.returns
returns g c =
    read c.args.run c.args.input.now c.copy_within.new.self c.read.new.buf c.in_ok-n.n (Consumes _ _)
    (moved c.args.run.from c.args.run.held c.args.input.now c.requires.0 c.copy_within.ensures.after)
    (omega (arith, c.requires.1, c.copy_within.auto.self))
    (omega (arith, c.read.auto.buf, c.requires.1, c.copy_within.auto.self))
    c.in_ok-n.ensures.bound.0 c.in_ok-n.ensures.bytes.0 c.in_ok-n.ensures.bytes.1
