-- `lines` meets its contract: what stands and what is behind stay the lines of the whole.
use Prim.Native.Nat.{◌-◌}
use lib.ListN.{length}
use Rattle.log_lines.proofs.Batching.{Held}
use Rattle.log_lines.proofs.lines.Given as goal

abbrev pub invariant-loop-next : goal.invariant-loop-next
invariant-loop-next l = Held l.left l.logs l.input l.initial.out l.initial.said l.out l.said l.b

abbrev pub decreases-loop-next : goal.decreases-loop-next
decreases-loop-next l = length l.input - l.b.taken
