-- `writer::put_header` meets its contract.
use Rattle.rules.specs.Logs.{form_in}
use Rattle.logs.specs.Layout.{said}
use Rattle.logs.proofs.Forms.{header-cut}
use Rattle.logs.proofs.writer.put_header.Goals as goal

pub returns : goal.returns
returns c =
    let h = said c.args.header in
    let front = rw c.header_bytes-bytes.ensures at c.part.ensures in
    let behind = rw (c.moved_by.ensures, c.form_in.ensures, c.header_bytes-bytes.ensures) at c.part-rest.ensures in
    rw (front, behind, header-cut (form_in h) h) at c.put_both.ensures
