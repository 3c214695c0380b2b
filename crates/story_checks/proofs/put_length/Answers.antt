-- `story_checks::put_length` meets its contract.
use Rattle.std.proofs.Common.{rules}
use Rattle.text.proofs.Adding.{appends, both}
use Rattle.story_checks.proofs.put_length.Goals as goal

pub returns : goal.returns
returns c = search (rules, both, appends)
