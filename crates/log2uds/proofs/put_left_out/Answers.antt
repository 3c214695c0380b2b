-- `log2uds::put_left_out` meets its contract.
use native.Mathlib.Omega.{arith}
use borrow.Author.Tests.{ne_eqb}
use Rattle.rules.specs.Lines.{ascii}
use Rattle.log2uds.proofs.Words.{told-behind}
use Rattle.log2uds.proofs.put_left_out.Goals as goal

pub returns : goal.returns
returns c =
    let x = c.args in
    rw (ne_eqb x.left 0 c.if-left-eq0.false)
    (told-behind x.out.now (ascii "log2uds: 'dropped' lines left out:") x.at x.left c.put_item.result _ c.requires (omega arith)
    (omega arith)
    c.put_item.ensures)
