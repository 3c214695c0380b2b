-- `log_line::answer_of` meets its contract.
use Prim.Native.Nat.{ℕ}
use lib.ListN.{replicate, length-replicate}
use Rattle.logs.specs.Layout.{said}
use Rattle.log_call.proofs.Headers.{bad-layout, bad-fields, sound-layout}
use Rattle.log_line.proofs.Answering.{answered}
use Rattle.log_line.proofs.answer_of.Goals as goal

pub returns-in_err-h : goal.returns-in_err-h
returns-in_err-h c = rw c.from_residual.ensures (bad-layout c.args.log.now c.in_err-h.ensures)

pub returns-in_err-ask : goal.returns-in_err-ask
returns-in_err-ask c =
    let laid = c.in_ok-h.ensures in
    rw c.from_residual-in_err-ask.ensures (bad-fields c.args.log.now laid.1 laid.0 c.in_err-ask.ensures)

pub returns : goal.returns
returns c =
    let l = c.args.log.now in
    let laid = c.in_ok-h.ensures in
    let asks = c.in_ok-ask.ensures in
    let x =
    answered l (said c.in_ok-h.h) laid.1 asks.1 c.address_of-address.ensures c.size_of-size.ensures c.data_of-data.ensures
    c.events_of-events.ensures c.replies_of-replies.ensures (c.unsent-answered.ensures (replicate 4095 0) (length-replicate {A = ℕ} 4095 0)).1
    in
    (sound-layout l laid.1 laid.0 asks.0, laid.1, x)
