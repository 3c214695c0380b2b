-- `lengths::record_length_is` meets its contract: what is left of the length is compared with the value of the bytes that are left.
use mathlib.Core.Path.{◌≡◌}
use lib.Dec.{eqb}
use Rattle.rules.specs.Bytes.{value}
use Rattle.lengths.proofs.record_length_is.Given as goal

abbrev pub invariant-loop-b : goal.invariant-loop-b
invariant-loop-b l = eqb l.left (value l.b-iterator.iter.rest.now) ≡ eqb l.length (value l.size)
