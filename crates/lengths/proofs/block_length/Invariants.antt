-- `lengths::block_length` meets its contract: what is left to read, read on from v, is the value of all.
use Prim.Native.Nat.{◌^◌, ◌<◌}
use mathlib.Core.Path.{◌≡◌}
use lib.ListN.{drop}
use Rattle.rules.specs.Bytes.{value, value_from}
use Rattle.lengths.proofs.block_length.Given as goal

abbrev pub invariant-loop-b : goal.invariant-loop-b
invariant-loop-b l = record { fits : l.v < 2 ^ 64; left : value_from l.v (drop l.b-index l.bytes) ≡ value l.bytes }
