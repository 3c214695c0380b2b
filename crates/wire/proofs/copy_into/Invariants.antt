-- `wire::copy_into` meets its contract.
use mathlib.Core.Path.{◌≡◌}
use lib.Seq.{paste}
use lib.ListN.{length}
use Rattle.wire.proofs.copy_into.Given as goal

abbrev pub invariant-loop-i : goal.invariant-loop-i
invariant-loop-i l = (l.buffer ≡ paste l.initial.buffer l.at l.source l.i) × (length l.buffer ≡ length l.initial.buffer)
