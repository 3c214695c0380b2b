-- `exchange::events::event_in` meets its contract.
use mathlib.Core.Path.{◌∙◌}
use Rattle.exchange.specs.Meaning.{form_of}
use Rattle.exchange.proofs.Entries.{entry-part}
use Rattle.exchange.proofs.events.event_in.Goals as goal

pub returns : goal.returns
returns c =
    let x = c.args in
    c.event_of.ensures ∙ entry-part x.events.now x.i (form_of x.form) c.event_size-size.result c.event_size-size.ensures
