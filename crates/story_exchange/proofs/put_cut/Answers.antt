-- `story_exchange::put_cut` meets its contract.
use mathlib.Core.List.{append-nil}
use mathlib.Core.Path.{sym}
use borrow.Author.Tests.{le-leb, lt-leb}
use Rattle.telling.specs.Words.{said}
use Rattle.text.proofs.Adding.{nothing, saying}
use Rattle.story_exchange.proofs.put_cut.Goals as goal

pub returns-in-Some : goal.returns-in-Some
unfolding said
returns-in-Some c = rw (c.in-Some.is, lt-leb _ _ c.if-overall-finish.true) (saying (sym (append-nil _)) c.put_over.ensures)

pub returns-in_default : goal.returns-in_default
returns-in_default c = rw (c.in-Some.is, le-leb _ _ c.if-overall-finish.false) (nothing _ _)

pub returns-in_default-2 : goal.returns-in_default-2
returns-in_default-2 c = rw c.in_default.is (nothing _ _)
