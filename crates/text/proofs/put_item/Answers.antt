-- `text::put_item` meets its contract.
use native.Mathlib.Omega.{arith}
use mathlib.Core.Path.{◌∙◌}
use lib.ListN.{length}
use Rattle.text.specs.Written.{item}
use Rattle.text.proofs.Numerals.{item-room, item-parts}
use Rattle.text.proofs.Writing.{then, not-appended, appended}
use Rattle.text.proofs.put_item.Goals as goal

pub returns-then-not-fits : goal.returns-then-not-fits
returns-then-not-fits c =
    let x = c.args in
    not-appended (item x.word.now x.number x.bytes.now) x.line.now x.at
    (item-room x.word.now x.bytes.now x.number x.at (length x.line.now) c.beside.result c.decimal_length.ensures.0 c.beside.ensures c.fits.ensures ∙ c.if-not-fits.true)

pub put_bytes-c-requires : goal.put_bytes-c-requires
put_bytes-c-requires c =
    let x = c.args in
    omega (
      arith,
      item-parts x.word.now x.bytes.now x.number x.at (length x.line.now) c.beside.result c.decimal_length.ensures.0 c.beside.ensures c.fits.ensures c.if-not-fits.false,
    )

pub put_byte-requires : goal.put_byte-requires
put_byte-requires c =
    let x = c.args in
    omega (
      arith,
      item-parts x.word.now x.bytes.now x.number x.at (length x.line.now) c.beside.result c.decimal_length.ensures.0 c.beside.ensures c.fits.ensures c.if-not-fits.false,
    )

pub returns : goal.returns
unfolding item
returns c =
    let x = c.args in
    let room =
    item-parts x.word.now x.bytes.now x.number x.at (length x.line.now) c.beside.result c.decimal_length.ensures.0 c.beside.ensures c.fits.ensures c.if-not-fits.false
    in
    let line = then (omega (arith, room)) (then (omega (arith, room)) c.put_word-a.ensures c.put_number-b.ensures) c.put_bytes-c.ensures in
    appended (item x.word.now x.number x.bytes.now) x.line.now x.at
    (item-room x.word.now x.bytes.now x.number x.at (length x.line.now) c.beside.result c.decimal_length.ensures.0 c.beside.ensures c.fits.ensures ∙ c.if-not-fits.false)
    (then (omega (arith, room)) line c.put_byte.ensures)
