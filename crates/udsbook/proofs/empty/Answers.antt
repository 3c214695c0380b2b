-- `empty` meets its contract.
use mathlib.Core.Path.{◌∙◌}
use Rattle.udsbook.proofs.Holding.{begun}
use Rattle.udsbook.proofs.empty.Goals as goal

pub returns : goal.returns
returns c = c.put.ensures ∙ begun c.args.book.now c.begin-len.new.book c.begin-len.result c.requires c.begin-len.ensures
