-- `text::put_bytes` meets its contract.
use Rattle.text.proofs.Writing.{then, none}
use Rattle.text.proofs.Numerals.{behind-none, behind-some}
use lib.ListN.{length}
use native.Mathlib.Omega.{arith}
use mathlib.Core.Path.{ap}
use Prim.Native.Nat.{ℕ}
use Rattle.text.proofs.put_bytes.Goals as goal

pub returns-then-bytes-eq0 : goal.returns-then-bytes-eq0
returns-then-bytes-eq0 c =
    rw (behind-none c.args.bytes.now c.if-bytes-eq0.true) (none c.args.line.now c.args.at)

pub returns : goal.returns
returns c =
    let some = behind-some c.args.bytes.now c.if-bytes-eq0.false in
    rw some (then (omega (arith, c.requires, ap (length {A = ℕ}) some)) c.put_byte-n.ensures c.put_hex.ensures)
