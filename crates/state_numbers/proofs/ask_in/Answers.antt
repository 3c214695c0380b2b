-- `state_numbers::ask_in` meets its contract. (The check finds this goal too, near one of its limits.)
use Rattle.std.proofs.Common.{arith, ◌%◌, ap, subst, Some}
use borrow.Author.Tests.{le-leb}
use Rattle.rules.specs.Logs.{Header}
use Rattle.log_call.specs.Asking.{AskedBy}
use Rattle.state_numbers.specs.Kept.{number}
use Rattle.state_numbers.proofs.ask_in.Goals as goal

pub returns : goal.returns
returns c =
    let ask = c.in_ok-ask.ask in
    let asks = subst (λ (h : Header). AskedBy h (Some ask)) c.header_in-h.ensures c.in_ok-ask.ensures in
    let call = ap (λ (h : Header). h.call) c.header_in-h.ensures in
    (rw (le-leb (number c.args.state 19 % 256) 15 (omega (arith, call))) asks.0, ask, asks.1, c.limited.ensures)
