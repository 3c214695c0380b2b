-- `text::append_hex` meets its contract.
use native.Mathlib.Omega.{arith}
use borrow.Author.Tests.{le-leb, lt-leb}
use Rattle.rules.specs.Lines.{hex}
use Rattle.text.proofs.Numerals.{hex-length}
use Rattle.text.proofs.Writing.{not-appended, appended}
use Rattle.text.proofs.append_hex.Goals as goal

pub returns-then-bytes-line : goal.returns-then-bytes-line
returns-then-bytes-line c =
    let x = c.args in
    let long = hex-length x.bytes.now in
    not-appended (hex x.bytes.now) x.line.now x.at (lt-leb _ _ (omega (arith, long)))

pub put_hex-requires : goal.put_hex-requires
put_hex-requires c = omega (arith, hex-length c.args.bytes.now)

pub returns : goal.returns
returns c =
    let x = c.args in
    let long = hex-length x.bytes.now in
    appended (hex x.bytes.now) x.line.now x.at (le-leb _ _ (omega (arith, long))) c.put_hex.ensures
