-- `sum_up` meets its contract: the counters are as many as a summary has.
use native.Mathlib.Omega.{arith}
use mathlib.Core.Path.{◌∙◌, ap}
use lib.ListN.{take}
use Rattle.bookkeeping.specs.Said.{refusal}
use Rattle.wire.specs.Refusing.{refusal_number}
use Rattle.udsbook.proofs.Holding.{summed-up, no-sum}
use Rattle.udsbook.proofs.sum_up.Goals as goal

pub returns-in-Ok : goal.returns-in-Ok
returns-in-Ok c =
    let x = c.args in
    let k =
    summed-up (take x.n x.book.now) x.summary.now c.summarize.new.summary c.requires.1 c.put_summary-lines.result x.book.now
    c.put_summary-lines.new.text c.requires.0 (omega arith) (rw c.part.ensures at c.in-Ok.ensures) c.put_summary-lines.ensures
    in
    record { out = c.put.ensures ∙ k.out; report = k.said }

pub returns-in-Err-Refused : goal.returns-in-Err-Refused
returns-in-Err-Refused c =
    let x = c.args in
    let k =
    no-sum (take x.n x.book.now) x.summary.now c.summarize.new.summary c.requires.1 c.in-Err-Refused.refusal
    (rw (c.in-Err-Refused.field-0-is, c.part.ensures) at c.in-Err-Refused.ensures)
    in
    record { out = k.out; report = c.refused.ensures ∙ ap (λ r. refusal (refusal_number r)) c.in-Err-Refused.refusal-is ∙ k.said }
