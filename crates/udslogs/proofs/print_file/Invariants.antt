-- What is held stays inside the buffer.
use Prim.Native.Nat.{◌+◌, ◌≤◌}
use mathlib.Core.Path.{◌≡◌}
use lib.ListN.{length}
use Rattle.udslogs.proofs.print_file.Given as goal

abbrev pub invariant-loop : goal.invariant-loop
invariant-loop g l =
    (l.run.from + l.run.held ≤ length l.input) × (131078 ≡ length l.input) × (65536 ≡ length l.out) × (4096 ≡ length l.said)
