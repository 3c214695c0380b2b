-- `header::header_in` meets its contract.
use Rattle.exchange.specs.Meaning.{form_of}
use Rattle.logs.proofs.Forms.{header-apart}
use Rattle.logs.proofs.header.header_in.Goals as goal

pub returns : goal.returns
returns c =
    let l = c.args.log.now in
    header-apart (form_of c.form_of-form.result) l c.part-rest.result.now (λ i. record {
      version = c.u16_at-version.ensures i;
      call = c.byte_at.ensures i;
      flags = c.byte_at-2.ensures i;
      value = c.u16_at.ensures i;
      sub = c.byte_at-3.ensures i;
      address_length = c.byte_at-4.ensures i;
      size_length = c.byte_at-5.ensures i;
      listens = c.listens_in.ensures i;
      arguments = c.u16_at-2.ensures i;
      arguments_at = c.u16_at-3.ensures i;
      events = c.u16_at-4.ensures i;
      events_at = c.u16_at-5.ensures i;
      replies = c.u16_at-6.ensures i;
      replies_at = c.u16_at-7.ensures i;
      total = c.u16_at-8.ensures i;
      p2 = c.u32_at.ensures i;
      star = c.u32_at-2.ensures i;
      overall = c.u32_at-3.ensures i;
    })
    (rw c.moved_by.ensures at c.part-rest.ensures)
    (rw c.u16_at-version.ensures at c.form_of-form.ensures)
