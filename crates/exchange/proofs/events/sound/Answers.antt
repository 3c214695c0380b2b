-- `exchange::events::sound` meets its contract.
use native.Mathlib.Omega.{arith}
use mathlib.Core.Path.{sym, ◌∙◌}
use borrow.Author.Tests.{le-leb}
use Rattle.exchange.proofs.Entries.{sound-reply}
use Rattle.exchange.specs.Meaning.{entry_of}
use Rattle.exchange.proofs.events.sound.Goals as goal

pub returns : goal.returns
returns c =
    let a = c.args in
    sym (sound-reply a.replies.now (entry_of a.event) (omega arith) c.requires
    c.if-event-ne0.false ∙ rw (le-leb _ _ c.if-event-gt4095.false))
