-- `text::decimal_length` meets its contract.
use mathlib.Core.Path.{sym, ap}
use native.Mathlib.Omega.{arith}
use lib.ListN.{length}
use Rattle.text.proofs.Numerals.{decimal-small, decimal-longer, digits}
use Rattle.text.proofs.+decimal_length.Goals as goal

pub returns-then-value-lt10 : goal.returns-then-value-lt10
returns-then-value-lt10 t c = (sym (ap length (decimal-small c.args.value c.if-value-lt10.true)), omega arith)

pub returns-else-value-lt10 : goal.returns-else-value-lt10
returns-else-value-lt10 t c =
    let v = c.args.value in
    let longer = decimal-longer v c.if-value-lt10.false (omega arith) in
    (omega (arith, c.decimal_length.ensures.0), omega (arith, c.decimal_length.ensures.0, digits 19 19 v (omega arith)))
