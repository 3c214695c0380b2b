-- `text::put_word` meets its contract: the word is copied into a part of the line.
use Rattle.text.proofs.Writing.{copied}
use Rattle.text.proofs.put_word.Goals as goal

pub returns : goal.returns
returns c = copied c.args.line.now c.args.at c.args.word.now c.copy_from_slice.ensures.after
