-- `stores::record_of` meets its contract.
use Rattle.stores.specs.Places.{record_in}
use Rattle.stores.proofs.record_of.Goals as goal

pub returns-then-not-is_known : goal.returns-then-not-is_known
unfolding record_in
returns-then-not-is_known c = rw (← c.find-slot.ensures, ← c.if-not-is_known.ensures)

pub returns : goal.returns
unfolding record_in
returns c = rw (← c.find-slot.ensures, ← c.if-not-is_known.ensures, c.u16_at.ensures)
