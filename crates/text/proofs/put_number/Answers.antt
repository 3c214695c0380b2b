-- `text::put_number` meets its contract.
use native.Mathlib.Omega.{arith}
use mathlib.Core.Path.{ap}
use lib.ListN.{length}
use Rattle.text.proofs.Numerals.{decimal-small, decimal-two}
use Rattle.text.proofs.Writing.{then}
use Rattle.text.proofs.put_number.Goals as goal

pub put_byte-requires : goal.put_byte-requires
put_byte-requires c =
    omega (arith, ap length (decimal-small c.args.value c.if-value-lt10.true), c.put_byte-n.ensures.next, c.put_byte-n.auto.line)

pub returns-then-value-lt10 : goal.returns-then-value-lt10
returns-then-value-lt10 c =
    rw (decimal-small c.args.value c.if-value-lt10.true, ← c.digit.ensures)
    (then (omega arith) c.put_byte-n.ensures c.put_byte.ensures)

pub put_two-requires : goal.put_two-requires
put_two-requires c =
    let v = c.args.value in
    let long = ap length (decimal-two v c.if-value-lt10.false c.if-value-lt100.true) in
    (omega (arith, long, c.put_byte-n.ensures.next, c.put_byte-n.auto.line), c.if-value-lt100.true)

pub returns-then-value-lt100 : goal.returns-then-value-lt100
returns-then-value-lt100 c =
    rw (decimal-two c.args.value c.if-value-lt10.false c.if-value-lt100.true)
    (then (omega arith) c.put_byte-n.ensures c.put_two.ensures)

pub returns : goal.returns
returns c =
    then (omega arith) c.put_byte-n.ensures c.put_decimal.ensures
