-- `responder::count` meets its contract.
use Rattle.std.proofs.Common.{arith}
use Rattle.bench.specs.Stores.{store_of}
use Rattle.responder.proofs.count.Goals as goal

pub returns : goal.returns
unfolding store_of
returns c = rw (c.min.ensures, c.count.ensures, c.part-faults.ensures, c.u16_at.ensures, c.u16_at-2.ensures, c.byte_at.ensures) (omega arith)
