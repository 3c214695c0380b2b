-- `responder::write_record` meets its contract.
use Rattle.responder.proofs.Services.{write-too-short, write-unknown, write-wrong-length, write_granted, write-placed}
use Rattle.responder.proofs.write_record.Goals as goal

pub returns-then-request-lt4 : goal.returns-then-request-lt4
returns-then-request-lt4 c = (write-too-short c.args.store.now c.args.request.now c.if-request-lt4.true, tt)

pub returns-in_default : goal.returns-in_default
returns-in_default c = (write-unknown c.args.store.now c.args.request.now c.if-request-lt4.false (rw c.u16_at.ensures at c.in_default.ensures), tt)

pub returns-then-request-place : goal.returns-then-request-place
returns-then-request-place c =
    (write-wrong-length c.args.store.now c.args.request.now c.if-request-lt4.false (rw c.u16_at.ensures at c.in-Some.ensures) c.if-request-place.true, tt)

pub returns : goal.returns
returns c =
    let found = rw c.u16_at.ensures at c.in-Some.ensures in (
      write_granted c.args.store.now c.args.request.now c.if-request-lt4.false found c.if-request-place.false,
      write-placed c.args.store.now c.args.request.now c.if-request-lt4.false found c.if-request-place.false,
    )
