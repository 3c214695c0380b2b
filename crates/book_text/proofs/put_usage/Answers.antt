-- `put_usage` meets its contract.
use Rattle.book_text.specs.Texts.{usage}
use Rattle.book_text.proofs.Texts.{usage-put}
use Rattle.book_text.proofs.put_usage.Goals as goal

pub returns : goal.returns
unfolding usage
returns c = rw c.then_some.ensures (usage-put c.args.text.now c.copy_into.new.buffer c.copy_into.result c.copy_into.ensures)
