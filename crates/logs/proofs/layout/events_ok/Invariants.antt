-- `layout::events_ok` meets its contract: what passed up to i and what is left say what all do.
use Prim.Native.Nat.{◌-◌}
use mathlib.Core.Bool.{◌&&◌}
use mathlib.Core.Path.{◌≡◌}
use Rattle.rules.specs.Bytes.{every}
use Rattle.rules.specs.Events.{entries_from, entries}
use Rattle.rules.specs.Logs.{event_ok}
use Rattle.exchange.specs.Meaning.{form_of}
use Rattle.logs.proofs.layout.events_ok.Given as goal

abbrev pub invariant-loop-i : goal.invariant-loop-i
invariant-loop-i l = (l.passed && every event_ok (entries_from (form_of l.form) l.events (l.n - l.i) l.i)) ≡ every event_ok (entries (form_of l.form) l.events)
