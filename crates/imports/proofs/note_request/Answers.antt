-- `imports::note_request` meets its contract.
use Rattle.std.specs.Prelude.{Some}
use Rattle.rules.specs.Lines.{ascii}
use Rattle.text.specs.Written.{item}
use Rattle.imports.proofs.Noting.{told_line}
use Rattle.imports.proofs.note_request.Goals as goal

pub returns : goal.returns
returns c =
    let x = c.args in
    told_line x.out.now c.put_item.new.line (item (ascii "request") x.line x.message.now) x.t.size c.put_item.result c.requires c.put_item.ensures
    (Some x.time) x.t.events x.t.bytes x.t.drops x.t.over
