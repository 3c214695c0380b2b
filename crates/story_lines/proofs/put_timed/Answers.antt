-- `story_lines::put_timed` meets its contract.
use Rattle.std.proofs.Common.{rules}
use Rattle.text.proofs.Adding.{appends, both}
use Rattle.story_lines.proofs.put_timed.Goals as goal

pub returns : goal.returns
returns c = search (rules, both, appends)
