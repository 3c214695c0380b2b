-- `imports::note_drop` meets its contract.
use native.Mathlib.Omega.{arith}
use mathlib.Core.List.{[]}
use mathlib.Core.Path.{◌≡◌, ◌∙◌, ap}
use lib.ListN.{take}
use borrow.Author.Tests.{lt-ltb}
use Rattle.rules.specs.Lines.{ascii}
use Rattle.text.specs.Written.{item}
use Rattle.std.proofs.lemmas.List.{take_min}
use Rattle.imports.proofs.Noting.{told_line}
use Rattle.imports.proofs.note_drop.Goals as goal

pub returns : goal.returns
returns c =
    let x = c.args in
    let t = x.t in
    let out = x.out.now in
    let same : take c.min-at.result out ≡ take t.size out = ap (λ k. take k out) c.min-at.ensures ∙ take_min t.size out in
    rw (c.if-not-drops.false, lt-ltb t.drops 4096 c.if-t-ge-MOST_DROPS.false, ← c.next-drops.ensures, ← same)
    (told_line out c.put_item.new.line (item (ascii "dropped") x.line []) c.min-at.result c.put_item.result (omega arith) c.put_item.ensures
    t.start t.events t.bytes c.next-drops.result t.over)
