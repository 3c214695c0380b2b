-- `stores::find` meets its contract: what is left to look through holds what the whole list does.
use mathlib.Core.Path.{◌≡◌}
use Rattle.bench.specs.Stores.{store_of, slot_of}
use Rattle.bench.specs.Stores as bench
use Rattle.stores.proofs.Slots.{left}
use Rattle.stores.proofs.find.Given as goal

abbrev pub invariant-loop-i : goal.invariant-loop-i
invariant-loop-i l = bench.find (left l.store l.i) l.id ≡ slot_of (store_of l.store) l.id
