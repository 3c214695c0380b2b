-- `story_lines::put_shown` meets its contract.
use Rattle.std.proofs.Common.{rules}
use borrow.Author.Tests.{lt-leb}
use Rattle.telling.specs.Words.{shown}
use Rattle.text.proofs.Adding.{appends, both, nothing}
use Rattle.story_lines.proofs.put_shown.Goals as goal

pub returns-then-bytes-le8 : goal.returns-then-bytes-le8
unfolding shown
returns-then-bytes-le8 c = search (rules, both, nothing)

pub returns : goal.returns
unfolding shown
returns c = rw (lt-leb _ 8 c.if-bytes-le8.false, ← c.part.ensures) (search (rules, both, appends))
