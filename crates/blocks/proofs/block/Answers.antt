-- `blocks::block` meets its contract.
use native.Mathlib.Nat.{add-sub_cancel_left}
use Rattle.std.proofs.Common.{sym}
use Rattle.rules.specs.Blocks.{block}
use Rattle.blocks.proofs.Laws.{refused-empty}
use Rattle.blocks.proofs.Steps.{rest}
use Rattle.blocks.proofs.block.Goals as goal

pub returns-in_default : goal.returns-in_default
returns-in_default c = let z = c.in_default.ensures in sym (refused-empty _ _ _ _ (sym c.in_default.ensures))

pub returns-then-carried-data : goal.returns-then-carried-data
unfolding block
returns-then-carried-data c = rw add-sub_cancel_left

pub returns : goal.returns
unfolding block
returns c = rest _ _ _ c.if-carried-data.false
