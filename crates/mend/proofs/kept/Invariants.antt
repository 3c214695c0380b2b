-- `kept` meets its contract.
use mathlib.Core.Path.{◌≡◌}
use Rattle.rules.specs.Events.{entries_from}
use Rattle.exchange.specs.Meaning.{form_of}
use Rattle.mending.specs.Mend.{run}
use Rattle.mend.proofs.Counting.{so_far}
use Rattle.mend.proofs.kept.Given as goal

abbrev pub invariant-loop-i : goal.invariant-loop-i
invariant-loop-i l =
    so_far (form_of l.form) l.left l.events l.n l.i l.last ≡ run 0 l.left (entries_from (form_of l.form) l.events l.n 0)
