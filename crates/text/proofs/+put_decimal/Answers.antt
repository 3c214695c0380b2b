-- `text::put_decimal` meets its contract.
use mathlib.Core.Path.{ap}
use native.Mathlib.Omega.{arith}
use lib.ListN.{length}
use Rattle.text.proofs.Numerals.{decimal-small, decimal-two, decimal-hundred, hundred-longer}
use Rattle.text.proofs.Writing.{then}
use Rattle.text.proofs.+put_decimal.Goals as goal

pub put_byte-requires : goal.put_byte-requires
put_byte-requires t c = omega (arith, ap length (decimal-small c.args.value c.if-value-lt10.true))

pub returns-then-value-lt10 : goal.returns-then-value-lt10
returns-then-value-lt10 t c =
    rw (decimal-small c.args.value c.if-value-lt10.true, ← c.digit.ensures) c.put_byte.ensures

pub put_two-requires : goal.put_two-requires
put_two-requires t c =
    (omega (arith, ap length (decimal-two c.args.value c.if-value-lt10.false c.if-value-lt100.true)), c.if-value-lt100.true)

pub returns-then-value-lt100 : goal.returns-then-value-lt100
returns-then-value-lt100 t c =
    rw (decimal-two c.args.value c.if-value-lt10.false c.if-value-lt100.true) c.put_two.ensures

pub put_decimal-n-requires : goal.put_decimal-n-requires
put_decimal-n-requires t c =
    (omega arith, omega (arith, hundred-longer c.args.value c.if-value-lt100.false (omega arith)))

pub put_two-requires-2 : goal.put_two-requires-2
put_two-requires-2 t c = (
  omega (arith, c.put_decimal-n.ensures.next, c.put_decimal-n.auto.line, hundred-longer c.args.value c.if-value-lt100.false (omega arith)),
  omega arith,
)

pub returns : goal.returns
returns t c =
    let v = c.args.value in
    let longer = hundred-longer v c.if-value-lt100.false (omega arith) in
    rw (decimal-hundred v c.if-value-lt100.false (omega arith))
    (then (omega (arith, c.put_decimal-n.ensures.next)) c.put_decimal-n.ensures c.put_two-2.ensures)
