-- `exchange::events::event_at` meets its contract.
use mathlib.Core.Path.{◌∙◌}
use Rattle.exchange.specs.Meaning.{form_of}
use Rattle.exchange.proofs.Entries.{entry_read}
use Rattle.exchange.proofs.events.event_at.Goals as goal

pub returns : goal.returns
returns c =
    let x = c.args in
    c.event_of-2.ensures ∙
    entry_read x.events.now x.i (form_of x.form) c.part.result.now (rw (← c.event_size-size.ensures) c.part.ensures)
