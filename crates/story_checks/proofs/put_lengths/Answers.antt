-- `story_checks::put_lengths` meets its contract.
use Rattle.telling.specs.Checks.{lenient_line}
use Rattle.text.proofs.Adding.{appends, both}
use Rattle.story_checks.proofs.put_lengths.Goals as goal

pub returns : goal.returns
unfolding lenient_line
returns c = rw (← c.verdict.ensures) (both (appends c.append-a.ensures) (appends c.append.ensures))
