-- `story_lines::put_event` meets its contract.
use Rattle.std.proofs.Common.{rules}
use Rattle.story_lines.proofs.Wording.{behind-time}
use Rattle.text.proofs.Adding.{appends, both}
use Rattle.story_lines.proofs.put_event.Goals as goal

pub returns : goal.returns
returns c = search (rules, both, appends, behind-time)
