-- `exchange::whole_turn` meets its contract.
use Rattle.exchange.specs.Meaning.{entry_of}
use Rattle.exchange.specs.Places.{Named}
use Rattle.exchange.proofs.Turning.{named-whole, turns-notice, turns-limit, turns-reply}
use Rattle.exchange.proofs.whole_turn.Goals as goal

pub returns-then-more : goal.returns-then-more
returns-then-more c =
    -- The place of the reply, which is all there.
    let place : let args = c.args in Named args.replies.now (entry_of args.event) (record { at = args.event.offset; len = args.event.size }) = named-whole c.args.listens c.requires c.kind_heard-kind.ensures c.if-kind-eq0.true in
    turns-notice c.kind_heard-kind.ensures c.counted-read.ensures c.if-kind-eq0.true place c.whole_look.ensures
    c.in-Pending.is c.counted-notices.ensures
    c.allows-more.ensures c.if-more.true

pub returns-in-Pending : goal.returns-in-Pending
returns-in-Pending c =
    -- The place of the reply, which is all there.
    let place : let args = c.args in Named args.replies.now (entry_of args.event) (record { at = args.event.offset; len = args.event.size }) = named-whole c.args.listens c.requires c.kind_heard-kind.ensures c.if-kind-eq0.true in
    turns-limit c.kind_heard-kind.ensures c.counted-read.ensures c.if-kind-eq0.true place c.whole_look.ensures
    c.in-Pending.is c.counted-notices.ensures c.allows-more.ensures c.if-more.false

pub returns-in-Settles : goal.returns-in-Settles
returns-in-Settles c =
    -- The place of the reply, which is all there.
    let place : let args = c.args in Named args.replies.now (entry_of args.event) (record { at = args.event.offset; len = args.event.size }) = named-whole c.args.listens c.requires c.kind_heard-kind.ensures c.if-kind-eq0.true in
    turns-reply c.kind_heard-kind.ensures c.counted-read.ensures c.if-kind-eq0.true place c.whole_look.ensures
    c.in-Settles.is c.finish-finished.ensures
