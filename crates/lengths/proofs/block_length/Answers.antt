-- `lengths::block_length` meets its contract: what is left to read, read on from v, is the value of all.
use Rattle.std.proofs.Common.{◌∙◌, arith}
use Rattle.lengths.proofs.Values.{too_much}
use Rattle.lengths.proofs.block_length.Goals as goal

pub returns-in_err-v : goal.returns-in_err-v
returns-in_err-v c = c.from_residual.ensures ∙ too_much _ _ _ c.loop-b-test.true (omega (arith, c.in_err-v.ensures)) c.loop-b.invariant.left
