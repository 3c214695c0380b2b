-- `story_checks::put_check` meets its contract.
use Rattle.text.proofs.Adding.{appends, both}
use Rattle.story_checks.proofs.put_check.Goals as goal

pub returns : goal.returns
returns c = rw (← c.verdict.ensures) (both (both (appends c.append-a.ensures) c.put_wanted-b.ensures) (appends c.append.ensures))
