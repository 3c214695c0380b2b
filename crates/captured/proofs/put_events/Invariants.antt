-- `put_events` meets its contract: behind i turns the first i events stand in the buffer.
use mathlib.Core.Path.{◌≡◌}
use Rattle.exchange.specs.Meaning.{form_of}
use Rattle.mend.proofs.Copies.{over}
use Rattle.captured.proofs.Putting.{first}
use Rattle.captured.proofs.put_events.Given as goal

abbrev pub invariant-loop-i : goal.invariant-loop-i
invariant-loop-i l = l.out ≡ over (first (form_of l.form) l.source l.events l.i) l.initial.out
