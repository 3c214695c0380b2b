-- `put_offsets` meets its contract: with what is still to be written, the directory is the one that was asked for.
use Rattle.book.proofs.Inserting.{to_come}
use Rattle.book.specs.Moved.{moved}
use lib.ListN.{take, drop}
use mathlib.Core.Path.{◌≡◌}
use mathlib.Core.List.{◌++◌}
use Prim.Native.Nat.{◌+◌, ◌*◌, ◌≤◌}
use Rattle.book.proofs.writer.put_offsets.Given as goal

abbrev pub invariant-loop-i : goal.invariant-loop-i
invariant-loop-i l =
    (l.at ≤ l.first + l.i * 65535) × (to_come l.book l.count l.i l.at ≡ take 20 l.initial.book ++ moved l.first l.count (drop 20 l.initial.book))
