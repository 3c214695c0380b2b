-- `text::put_two` meets its contract.
use native.Mathlib.Omega.{arith}
use Rattle.text.proofs.Writing.{then}
use Rattle.text.proofs.put_two.Goals as goal

pub returns : goal.returns
returns c =
    rw (← c.digit.ensures, ← c.digit-2.ensures) (then (omega (arith, c.put_byte-n.ensures.next)) c.put_byte-n.ensures c.put_byte.ensures)
