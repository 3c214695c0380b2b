-- `text::has_room` meets its contract: a number below 2 ^ 64 has at most 20 digits.
use Prim.Native.Nat.{◌+◌}
use native.Mathlib.Omega.{arith}
use mathlib.Core.Path.{sym}
use borrow.Author.Tests.{le-leb, leb-true}
use Rattle.text.specs.Written.{room, shown}
use Rattle.text.proofs.Numerals.{digits}
use Rattle.text.proofs.has_room.Goals as goal

pub returns-then-fits : goal.returns-then-fits
returns-then-fits c =
    let a = c.args in
    let long = leb-true (a.word + 65 + shown (a.head + a.bytes)) a.line (rw c.fits.ensures at c.if-fits.true) in
    sym (le-leb (room a.word a.time a.events a.notices (a.head + a.bytes)) a.line
    (omega (arith, digits 19 19 a.time (omega arith), digits 19 19 a.events (omega arith), digits 19 19 a.notices (omega arith))))
