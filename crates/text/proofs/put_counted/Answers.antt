-- `text::put_counted` meets its contract.
use Prim.Native.Nat.{ℕ, ◌+◌}
use native.Mathlib.Omega.{arith}
use mathlib.Core.Bool.{true}
use mathlib.Core.Path.{◌≡◌, sym, ◌∙◌, ap}
use borrow.Author.Tests.{leb-true}
use lib.Dec.{leb}
use lib.ListN.{length, length-append}
use Rattle.text.specs.Written.{counted}
use Rattle.text.proofs.Writing.{then, appended}
use Rattle.text.proofs.put_counted.Goals as goal

pub returns : goal.returns
returns c =
    let x = c.args in
    let all = counted x.word.now x.number in
    let line = x.line.now in
    let long : x.at + length all ≡ x.at + (length x.word.now + c.decimal_length.result + 1) = simp length-append (omega arith) in
    let fits : leb (x.at + length all) (length line) ≡ true =
    ap (λ (k : ℕ). leb k (length line)) long ∙ sym c.holds.ensures ∙ c.if-not-holds.false in
    let room = leb-true (x.at + length all) (length line) fits in
    appended all line x.at fits (then (omega (arith, long)) c.put_word-n.ensures c.put_number.ensures)
