-- `usage` meets its contract.
use mathlib.Core.Path.{◌∙◌}
use lib.ListN.{length}
use borrow.Author.Tests.{le-leb}
use Rattle.udsbook.proofs.Holding.{at_front}
use Rattle.udsbook.proofs.usage.Goals as goal

pub returns : goal.returns
returns c =
    let l = c.args.said.now in
    c.put.ensures ∙ at_front l c.put_usage-words.new.text c.put_usage-words.result (le-leb 64 (length l) c.requires) c.put_usage-words.ensures
