-- `writer::put_event` meets its contract.
use Rattle.exchange.specs.Meaning.{form_of, entry_of}
use Rattle.logs.proofs.Forms.{entry-cut}
use Rattle.logs.proofs.writer.put_event.Goals as goal

pub returns : goal.returns
returns c =
    let x = c.args in
    let bytes = rw (c.event_size.ensures, c.event_bytes-bytes.ensures, entry-cut (form_of x.form) (entry_of x.event)) at c.part.ensures in
    rw bytes at c.copy_into.ensures
