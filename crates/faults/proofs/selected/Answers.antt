-- `faults::selected` meets its contract.
use Rattle.std.proofs.Common.{◌/◌, length, sym, ◌∙◌, arith}
use Rattle.faults.proofs.Laws.{here, later}
use Rattle.faults.proofs.selected.Goals as goal

pub returns-then-left-hit : goal.returns-then-left-hit
returns-then-left-hit c =
    let a = c.args in
    sym (here a.mask a.records.now (length a.records.now / 4) c.loop-i.i c.loop-i-test.true c.matches-hit.ensures c.loop-i.left (omega (arith, c.if-left-hit.true))) ∙
    c.loop-i.invariant

pub loop-i-preserved : goal.loop-i-preserved
loop-i-preserved c =
    let a = c.args in
    sym (later a.mask a.records.now (length a.records.now / 4) c.loop-i.i c.loop-i-test.true c.matches-hit.ensures c.loop-i.left (omega (arith, c.if-left-hit.false))) ∙
    c.loop-i.invariant
