-- `put_word` meets its contract.
use Rattle.text.proofs.Adding.{appends, both}
use Rattle.book_text.proofs.put_word.Goals as goal

pub returns-in-Negative : goal.returns-in-Negative
returns-in-Negative c = rw c.in-Negative.is (both (appends c.append-n.ensures) (appends c.append_byte.ensures))
