-- `put_refusal` meets its contract.
use native.Mathlib.Omega.{arith}
use Rattle.book_text.proofs.Texts.{five-digits}
use Rattle.text.proofs.Adding.{appends, both}
use Rattle.rules.specs.Lines.{decimal}
use lib.ListN.{length, length-append}
use mathlib.Core.List.{[], ◌∷◌}
use borrow.Author.Tests.{le-leb}
use Rattle.book_text.proofs.put_refusal.Goals as goal

pub returns : goal.returns
returns c =
    let x = c.args in
    let all = both (appends c.put_counted-n.ensures) (appends c.append.ensures) in
    rw (le-leb 200 (length x.text.now) (omega arith))
    (all.put (omega (arith, length-append (decimal x.number) (10 ∷ []), five-digits x.number (omega arith))))
