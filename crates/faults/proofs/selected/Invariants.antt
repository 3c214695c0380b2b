-- `faults::selected` meets its contract.
use Prim.Native.Nat.{◌/◌}
use mathlib.Core.Path.{◌≡◌}
use lib.ListN.{length}
use Rattle.rules.specs.Faults.{select}
use Rattle.faults.specs.Found.{found_of}
use Rattle.faults.proofs.Laws.{left-of}
use Rattle.faults.proofs.selected.Given as goal

abbrev pub invariant-loop-i : goal.invariant-loop-i
invariant-loop-i l = found_of (left-of l.mask l.records (length l.records / 4) l.i) l.left ≡ found_of (select l.mask l.records) l.k
