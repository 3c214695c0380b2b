-- `story_exchange::put_silent` meets its contract.
use mathlib.Core.Path.{◌≡◌}
use borrow.Author.Tests.{le-leb, lt-leb}
use Rattle.exchange.specs.Meaning.{option_of}
use Rattle.telling.specs.Words.{said, timed, passed}
use Rattle.text.proofs.Adding.{saying}
use Rattle.story_exchange.specs.Ends.{silent_text}
use Rattle.story_exchange.proofs.put_silent.Goals.{in_default-via-in-Some+else-overall-state, in_default-via-in_default}
use Rattle.story_exchange.proofs.put_silent.Goals as goal

pub returns-in-Some : goal.returns-in-Some
unfolding said
returns-in-Some c = rw (c.in-Some.is, lt-leb _ _ c.if-overall-state.true) c.put_over.ensures

pub returns-in_default : goal.returns-in_default
unfolding said
returns-in_default c =
    let s = c.args.state in
    let late : timed s.deadline (passed s.hush) ≡ silent_text (option_of c.args.overall) s.deadline s.hush =
    elim c.in_default.branch [
      | in_default-via-in-Some+else-overall-state w ↦ rw (w.in-Some.is, le-leb _ _ w.if-overall-state.false)
      | in_default-via-in_default w ↦ rw w.in_default.is
    ]
    in
    saying late c.put_late.ensures
