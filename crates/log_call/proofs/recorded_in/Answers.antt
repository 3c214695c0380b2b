-- `log_call::recorded_in` meets its contract.
use Rattle.log_call.proofs.Headers.{bad-layout, bad-fields, sound-layout}
use Rattle.log_call.proofs.recorded_in.Goals as goal

pub returns-in_err-h : goal.returns-in_err-h
returns-in_err-h c = rw c.from_residual.ensures (bad-layout c.args.log.now c.in_err-h.ensures)

pub returns-in_err-ask : goal.returns-in_err-ask
returns-in_err-ask c = rw c.from_residual-in_err-ask.ensures (bad-fields c.args.log.now c.in_ok-h.ensures.1 c.in_ok-h.ensures.0 c.in_err-ask.ensures)

pub returns : goal.returns
returns c =
    let laid = c.in_ok-h.ensures in
    let asks = c.in_ok-ask.ensures in
    (sound-layout c.args.log.now laid.1 laid.0 asks.0, laid.1, asks.1)
