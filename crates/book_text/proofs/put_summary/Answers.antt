-- `put_summary` meets its contract: the lines of the counters before this one stand in the text.
use native.Mathlib.Omega.{arith}
use borrow.Author.Tests.{le-leb}
use Rattle.book_text.proofs.Texts.{line-more, no_lines, lines-long}
use Rattle.text.proofs.Adding.{both, nothing}
use Rattle.bookkeeping.specs.Said.{lines_from}
use lib.Seq.{take_all}
use lib.ListN.{length}
use mathlib.Core.Path.{sym, ap}
use Rattle.book_text.proofs.put_summary.Goals as goal

pub loop-place-init : goal.loop-place-init
loop-place-init c = rw (← no_lines) (nothing c.args.text.now 0)

pub loop-place-preserved : goal.loop-place-preserved
loop-place-preserved c =
    rw (sym (line-more c.args.summary.now c.loop-place.place c.loop-place-test.true)) (both c.loop-place.invariant c.put_counter-n.ensures)

pub returns : goal.returns
returns c =
    let l = c.loop-place in
    let x = c.args in
    let all = rw (ap (lines_from 0) (take_all l.place x.summary.now (omega arith))) at l.invariant in
    let long = lines-long 0 x.summary.now (omega arith) (λ k. omega (arith, c.type_inv.summary k)) in
    rw (le-leb 100224 (length x.text.now) (omega arith), le-leb (length x.summary.now) 4176 (omega arith)) (all.put (omega arith))
