-- `imports::note_reply` meets its contract.
use Prim.Native.Nat.{◌+◌}
use mathlib.Core.Path.{◌∙◌, sym}
use lib.ListN.{length}
use Rattle.rules.specs.Lines.{ascii}
use Rattle.text.specs.Written.{item}
use Rattle.imports.proofs.Noting.{told_line}
use Rattle.imports.proofs.note_reply.Goals as goal

pub returns : goal.returns
returns c =
    let x = c.args in
    let t = x.t in
    rw (sym c.fits.ensures ∙ c.if-not-fits.false)
    (told_line x.out.now c.put_item.new.line (item (ascii "reply") x.ms x.message.now) t.size c.put_item.result c.requires c.put_item.ensures
    t.start (t.events + 1) (t.bytes + length x.message.now) t.drops t.over)
