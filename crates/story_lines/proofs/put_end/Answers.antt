-- `story_lines::put_end` meets its contract.
use Rattle.std.proofs.Common.{rules, ◌≡◌}
use Rattle.telling.specs.Words.{end_text, ending}
use Rattle.text.proofs.Adding.{appends, both}
use Rattle.story_lines.proofs.put_end.Goals.{then-event-settled, else-event-settled}
use Rattle.story_lines.proofs.put_end.Goals as goal

pub returns : goal.returns
unfolding end_text
returns c =
    let ends : c.if-event-settled.ends.now ≡ ending c.args.event.time c.args.settled.time =
    elim c.if-event-settled.branch [ then-event-settled w ↦ search rules | else-event-settled w ↦ search rules ] in
    rw (← c.judged.ensures, ← ends) (both (appends c.append-a.ensures) c.put_tail.ensures)
