-- `off_field::put_events` meets its contract: no event so far has a field that is off.
use Prim.Native.Nat.{◌-◌}
use mathlib.Core.Path.{◌≡◌}
use Rattle.rules.specs.Events.{entries_from, entries}
use Rattle.exchange.specs.Meaning.{form_of}
use Rattle.log_fields.specs.Fields.{entries_fields, first}
use Rattle.off_field.proofs.put_events.Given as goal

abbrev pub invariant-loop-i : goal.invariant-loop-i
invariant-loop-i l =
    (l.text ≡ l.initial.text) ×
    (first (entries_fields (form_of l.form) l.from l.i (entries_from (form_of l.form) l.events (l.i-end - l.i) l.i)) ≡
    first (entries_fields (form_of l.form) l.from 0 (entries (form_of l.form) l.events)))
