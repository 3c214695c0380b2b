-- `exchange::events::within_limits` meets its contract.
use Prim.Native.Nat.{◌-◌}
use mathlib.Core.Path.{◌≡◌}
use Rattle.rules.specs.Events.{entries, entries_from}
use Rattle.exchange.proofs.Entries.{limits}
use Rattle.exchange.specs.Meaning.{form_of}
use Rattle.exchange.proofs.events.within_limits.Given as goal

abbrev pub invariant-loop-i : goal.invariant-loop-i
invariant-loop-i l = limits l.replies l.last (entries_from (form_of l.form) l.events (l.n - l.i) l.i) ≡ limits l.replies 0 (entries (form_of l.form) l.events)
