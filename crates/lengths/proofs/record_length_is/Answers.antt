-- `lengths::record_length_is` meets its contract: what is left of the length is compared with the value of the bytes that are left.
use Rattle.std.proofs.Common.{sym, ◌∙◌, arith}
use Rattle.lengths.proofs.Values.{decides, goes_on}
use Rattle.lengths.proofs.record_length_is.Goals as goal

pub returns-then-left-from : goal.returns-then-left-from
returns-then-left-from c =
    sym (decides _ _ _ c.in-Some.field-0.now c.in-Some.ensures.steps (omega arith) (λ e. c.if-left-from.true (omega arith))) ∙ c.loop-b.invariant

pub loop-b-preserved : goal.loop-b-preserved
loop-b-preserved c = goes_on _ _ _ c.in-Some.field-0.now c.in-Some.ensures.steps (omega arith) ∙ c.loop-b.invariant
