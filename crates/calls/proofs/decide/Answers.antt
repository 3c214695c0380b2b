-- `calls::decide` meets its contract: one law for each way that a call goes.
use mathlib.Core.Path.{◌≡◌, sym, ap, ◌∙◌}
use Rattle.calls.proofs.Running.{given-of, turned-away, turned-by-events, carried-out}
use Rattle.requests.specs.Prepared.{prepared_of}
use Rattle.wire.specs.Refusing.{refusal_number}
use Rattle.calls.proofs.decide.Goals as goal

pub returns-in-Err : goal.returns-in-Err
returns-in-Err c before after e writes =
    let x = c.args in
    let given = given-of x.session x.ask before x.address.now x.size.now x.«data».now x.events.now x.replies.now in
    let prepares = ap (prepared_of x.ask.call x.ask.quiet x.address.now x.size.now x.«data».now) (sym e) in
    rw (c.refused.ensures, writes) (turned-away given (refusal_number c.in-Err.refusal) (c.in-Err.ensures ∙ prepares))

pub returns-then-is_refused : goal.returns-then-is_refused
returns-then-is_refused c before after e writes =
    let x = c.args in
    let given = given-of x.session x.ask before x.address.now x.size.now x.«data».now x.events.now x.replies.now in
    let prepares = ap (prepared_of x.ask.call x.ask.quiet x.address.now x.size.now x.«data».now) (sym e) in
    rw (c.refused-then-is_refused.ensures, writes)
    (turned-by-events given (c.in-Ok.ensures ∙ prepares) c.exchange-heard.ensures c.is_refused.ensures c.if-is_refused.true)

pub returns : goal.returns
returns c before after e writes =
    let x = c.args in
    let given = given-of x.session x.ask before x.address.now x.size.now x.«data».now x.events.now x.replies.now in
    let prepares = ap (prepared_of x.ask.call x.ask.quiet x.address.now x.size.now x.«data».now) (sym e) in
    carried-out given (c.in-Ok.ensures ∙ prepares) c.exchange-heard.ensures c.is_refused.ensures c.if-is_refused.false writes.1 c.concluded.ensures
