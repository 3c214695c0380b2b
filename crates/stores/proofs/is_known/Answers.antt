-- `stores::is_known` meets its contract.
use borrow.Author.Tests.{le-leb}
use Rattle.bench.specs.Stores.{store_of}
use Rattle.stores.proofs.is_known.Goals as goal

pub returns-then-slot-ge1 : goal.returns-then-slot-ge1
unfolding store_of
returns-then-slot-ge1 c = rw (le-leb 1 c.args.slot.size c.if-slot-ge1.true, c.part-records.ensures, c.u16_at.ensures, c.u16_at-2.ensures)
