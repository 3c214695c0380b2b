-- `log2uds::put_error` meets its contract.
use borrow.Author.Rules.{rules}
use Rattle.log2uds.proofs.Words.{told, told_line}
use Rattle.rules.specs.Lines.{ascii}
use native.Mathlib.Omega.{arith}
use Rattle.log2uds.proofs.put_error.Goals as goal

pub returns-in-Text : goal.returns-in-Text
returns-in-Text c =
    rw (c.in-Text.is, ← c.from.ensures)
    (told c.args.out.now c.requires (ascii "refused") c.from.result c.put_item.result _ (omega arith) (omega arith) c.put_item.ensures)

pub returns-in-Line : goal.returns-in-Line
returns-in-Line c =
    rw c.in-Line.is
    (told_line c.args.out.now c.requires _ _ c.put_counted-n.result c.put_item-in-Line.result _ _ (omega arith)
    (omega arith) (search rules) c.put_counted-n.ensures c.put_item-in-Line.ensures)
