-- `wire::memory_bytes` meets its contract.
use Prim.Native.Nat.{◌-◌, ◌/◌, ◌^◌}
use mathlib.Core.List.{◌++◌}
use mathlib.Core.Path.{◌≡◌}
use lib.ListN.{take, drop}
use Rattle.rules.specs.Bytes.{bytes_of}
use Rattle.wire.proofs.memory_bytes.Given as goal

abbrev pub invariant-loop-written : goal.invariant-loop-written
invariant-loop-written l =
    (l.rest ≡ l.value / 256 ^ l.written) ×
    (l.bytes ≡ take (l.width - l.written) l.initial.bytes ++ (bytes_of l.written l.value ++ drop l.width l.initial.bytes))
