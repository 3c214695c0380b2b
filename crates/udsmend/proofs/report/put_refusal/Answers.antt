-- `report::put_refusal` meets its contract.
use native.Mathlib.Omega.{arith}
use Rattle.rules.specs.Lines.{ascii}
use Rattle.text.specs.Written.{counted}
use Rattle.mending.specs.Said.{said}
use Rattle.udsmend.proofs.Texts.{newline, one-put, one-ends}
use Rattle.udsmend.proofs.report.put_refusal.Goals as goal

pub returns : goal.returns
unfolding said
returns c =
    let x = c.args in
    let word = ascii "refused" in
    let number = c.from.result in
    let line = c.put_counted-n.new.line in
    let n = c.put_counted-n.result in
    let ends = one-ends x.text.now line word 0 number n (omega arith) (omega (arith, c.requires)) c.put_counted-n.ensures in
    rw (← c.from.ensures)
    (newline x.text.now line c.copy_into.new.buffer (counted word number) 0 n (omega (arith, ends, c.requires))
    (one-put x.text.now line word 0 number n (omega arith) (omega (arith, c.requires)) c.put_counted-n.ensures)
    c.copy_into.ensures)
