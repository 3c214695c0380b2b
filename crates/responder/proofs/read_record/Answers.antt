-- `responder::read_record` meets its contract.
use Rattle.responder.proofs.Services.{read-wrong-length, read-unknown, read-too-long, read-granted}
use Rattle.responder.proofs.read_record.Goals as goal

pub returns-then-request-ne3 : goal.returns-then-request-ne3
returns-then-request-ne3 c = (read-wrong-length c.args.store.now c.args.request.now c.if-request-ne3.true, tt)

pub returns-in_default : goal.returns-in_default
returns-in_default c = (read-unknown c.args.store.now c.args.request.now c.if-request-ne3.false (rw c.u16_at.ensures at c.in_default.ensures), tt)

pub returns-then-place-gt4092 : goal.returns-then-place-gt4092
returns-then-place-gt4092 c =
    (read-too-long c.args.store.now c.args.request.now c.if-request-ne3.false (rw c.u16_at.ensures at c.in-Some.ensures) c.if-place-gt4092.true, tt)

pub returns : goal.returns
returns c = (read-granted c.args.store.now c.args.request.now c.if-request-ne3.false (rw c.u16_at.ensures at c.in-Some.ensures) c.if-place-gt4092.false, tt)
