-- `imports::framed` meets its contract.
use mathlib.Core.Bool.{◌||◌}
use mathlib.Core.Path.{◌≡◌}
use Rattle.imports.proofs.Stepping.{frame-heard}
use Rattle.imports.proofs.framed.Goals as goal
use Rattle.imports.proofs.framed.Goals.{then-asks, else-asks}

pub returns : goal.returns
returns c =
    let x = c.args in
    let drops : c.if-asks.note_drop ≡ (c.feed-asks.result.drops || c.feed-answers.result.drops) =
    elim c.if-asks.branch [
      | then-asks w ↦ rw (w.note_drop-is, w.if-asks.true)
      | else-asks w ↦ rw (w.note_drop-is, w.if-asks.false)
    ] in
    frame-heard x.i x.lent.now x.time x.id x.ids.ask x.ids.answer c.next-line.result x.frame.now x.out.now c.log_given.new.log _ _ c.if-asks.note_drop
    c.next-line.ensures c.only.ensures c.only-2.ensures c.feed-asks.ensures c.feed-answers.ensures c.given-question.ensures c.given-response.ensures
    drops c.log_given.ensures c.note_drop-noted.ensures c.note_given.ensures
