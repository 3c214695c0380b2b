-- `text::put_hex` meets its contract: the digits of the bytes so far are written.
use native.Mathlib.Omega.{arith}
use Rattle.text.proofs.Writing.{then, none}
use Rattle.text.proofs.Numerals.{hex-length, hex-next}
use Rattle.text.proofs.put_hex.Goals as goal

pub loop-b-init : goal.loop-b-init
loop-b-init c = (none _ _, omega arith)

pub put_byte-n-requires : goal.put_byte-n-requires
put_byte-n-requires c = omega (arith, hex-length c.args.bytes.now)

pub put_byte-n-requires-in-loop-b : goal.put_byte-n-requires-in-loop-b
put_byte-n-requires-in-loop-b c = omega (arith, hex-length c.args.bytes.now)

pub loop-b-preserved : goal.loop-b-preserved
loop-b-preserved c =
    let all = hex-length c.args.bytes.now in (
      rw (hex-next c.args.bytes.now c.loop-b.b-index c.loop-b-test.true, ← c.digit.ensures, ← c.digit-in-loop-b.ensures)
          (then (omega arith) (then (omega arith) c.loop-b.invariant.0 c.put_byte-n.ensures) c.put_byte-n-in-loop-b.ensures),
      omega arith,
    )
