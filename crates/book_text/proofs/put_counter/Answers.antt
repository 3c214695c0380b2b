-- `put_counter` meets its contract.
use Rattle.text.proofs.Adding.{appends, both, nothing}
use Rattle.book_text.proofs.Texts.{one-line, no-line}
use Rattle.book_text.proofs.put_counter.Goals as goal

pub returns-then-number-eq0 : goal.returns-then-number-eq0
returns-then-number-eq0 c = let x = c.args in rw (no-line x.place x.number c.if-number-eq0.true) (nothing x.text.now x.at)

pub returns : goal.returns
returns c =
    let x = c.args in
    let word = rw c.at.ensures at c.put_word-class.ensures in
    rw (one-line x.place x.number c.if-number-eq0.false)
    (both (both (both (appends c.append_decimal-call.ensures) word) (appends c.put_counted-counted.ensures)) (appends c.append.ensures))
