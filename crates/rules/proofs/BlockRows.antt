-- The rows for blocks, by computing.
use mathlib.Core.Path.{refl}
use Rattle.rules.specs.BlockRows.{block_rows, BlockRows}
use Rattle.rules.specs.Blocks.{block}

pub block-rows-hold : BlockRows
unfolding block_rows block
block-rows-hold = refl
