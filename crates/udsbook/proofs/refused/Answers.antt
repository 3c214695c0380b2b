-- `refused` meets its contract.
use Rattle.udsbook.proofs.Holding.{at_front}
use mathlib.Core.Path.{◌∙◌}
use borrow.Author.Tests.{le-leb}
use lib.ListN.{length}
use Rattle.udsbook.proofs.refused.Goals as goal

pub returns : goal.returns
returns c =
    let l = c.args.said.now in
    c.put.ensures ∙
    at_front l c.put_refusal-words.new.text c.put_refusal-words.result (le-leb 200 (length l) c.requires) (rw c.from.ensures at c.put_refusal-words.ensures)
