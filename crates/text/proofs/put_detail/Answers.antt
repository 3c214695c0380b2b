-- `text::put_detail` meets its contract.
use Prim.Native.Nat.{◌+◌}
use native.Mathlib.Omega.{arith}
use lib.ListN.{length}
use Rattle.text.proofs.Numerals.{hex-length, shown-double, detail-none, detail-some}
use Rattle.text.proofs.Writing.{then}
use Rattle.text.proofs.put_detail.Goals as goal

pub returns-then-head-bytes-eq0 : goal.returns-then-head-bytes-eq0
returns-then-head-bytes-eq0 c =
    let a = c.args in
    rw (detail-none a.head.now a.bytes.now c.if-head-bytes-eq0.true) (then (omega arith) c.put_byte-n.ensures c.put_byte.ensures)

pub put_hex-m-requires : goal.put_hex-m-requires
put_hex-m-requires c =
    let a = c.args in
    omega (arith, shown-double (length a.head.now + length a.bytes.now), hex-length a.head.now)

pub put_hex-requires : goal.put_hex-requires
put_hex-requires c =
    let a = c.args in
    omega (arith, shown-double (length a.head.now + length a.bytes.now), hex-length a.head.now, hex-length a.bytes.now)

pub returns : goal.returns
returns c =
    let a = c.args in
    let room = shown-double (length a.head.now + length a.bytes.now) in
    let first = hex-length a.head.now in
    rw (detail-some a.head.now a.bytes.now (omega arith))
    (then (omega arith) (then (omega arith) c.put_byte-n.ensures c.put_hex-m.ensures) c.put_hex.ensures)
