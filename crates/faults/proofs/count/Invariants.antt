-- `faults::count` meets its contract.
use Prim.Native.Nat.{◌+◌, ◌/◌, ◌≤◌}
use mathlib.Core.Path.{◌≡◌}
use lib.ListN.{length}
use Rattle.rules.specs.Faults.{select}
use Rattle.faults.proofs.Laws.{left-of}
use Rattle.faults.proofs.count.Given as goal

abbrev pub invariant-loop-i : goal.invariant-loop-i
invariant-loop-i l = (l.found ≤ l.i) × (l.found + length (left-of l.mask l.records (length l.records / 4) l.i) ≡ length (select l.mask l.records))
