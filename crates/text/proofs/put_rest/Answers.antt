-- `text::put_rest` meets its contract.
use mathlib.Core.List.{[], ◌++◌}
use mathlib.Core.Path.{refl, sym}
use native.Mathlib.Omega.{arith}
use lib.ListN.{length-append}
use Rattle.text.specs.Written.{text}
use Rattle.text.proofs.Numerals.{text-length, detail-length}
use Rattle.text.proofs.Writing.{joined}
use Rattle.text.proofs.put_rest.Goals as goal

pub put_byte-requires : goal.put_byte-requires
put_byte-requires c = omega (arith, c.requires, detail-length c.args.head.now c.args.bytes.now)

pub returns : goal.returns
unfolding text
returns c =
    let a = c.args in
    let both = sym (length-append a.head.now a.bytes.now) in
    let long = text-length [] (a.head.now ++ a.bytes.now) a.time a.events a.notices refl refl refl both in
    joined (omega (arith, long, c.requires)) c.put_number-a.ensures c.put_number-b.ensures c.put_number-c.ensures
    c.put_detail-d.ensures c.put_byte.ensures
