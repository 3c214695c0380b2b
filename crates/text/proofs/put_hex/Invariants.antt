-- `text::put_hex` meets its contract: the digits of the bytes so far are written.
use Prim.Native.Nat.{◌+◌, ◌*◌}
use mathlib.Core.Path.{◌≡◌}
use lib.ListN.{take}
use Rattle.rules.specs.Lines.{hex}
use Rattle.text.specs.Written.{Put}
use Rattle.text.proofs.put_hex.Given as goal

abbrev pub invariant-loop-b : goal.invariant-loop-b
invariant-loop-b l = Put l.initial.line l.at (hex (take l.b-index l.bytes)) l.line l.n × (l.n ≡ l.at + l.b-index * 2)
