-- `exchange::settle` meets its contract.
use Prim.Native.Nat.{◌-◌}
use Rattle.exchange.proofs.Settling.{Held}
use Rattle.exchange.specs.Meaning.{asked_of, option_of, form_of}
use Rattle.exchange.proofs.settle.Given as goal

abbrev pub invariant-loop-i : goal.invariant-loop-i
invariant-loop-i l = Held l.strict (asked_of l.asked) (option_of l.overall) (form_of l.form) l.listens l.events l.replies l.n l.i l.state

abbrev pub decreases-loop-i : goal.decreases-loop-i
decreases-loop-i l = l.n - l.i
