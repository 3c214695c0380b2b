-- `exchange::judging::whole_look` meets its contract.
use mathlib.Core.Logic.{◌≢◌}
use mathlib.Core.Path.{◌≡◌, sym, ap, ◌∙◌}
use lib.ListN.{get_or}
use Rattle.exchange.proofs.Looking.{Read, looked-empty, looked-refused, looked-pending, looked-negative, looked-wrong, looked-positive}
use Rattle.exchange.specs.Meaning.{asked_of, verdict_of}
use Rattle.exchange.proofs.judging.whole_look.Goals as goal

pub returns-then-reply-eq0 : goal.returns-then-reply-eq0
returns-then-reply-eq0 c =
    -- The reply that is judged, from where its bytes are taken.
    let reply : Read c.args.strict (asked_of c.args.asked) c.args.hush c.args.replies.now c.args.place c.whole-reply.result.now = record { here = c.whole-reply.ensures } in
    looked-empty reply c.length_error.result c.if-reply-eq0.true c.length_error.ensures

pub returns-in-Err : goal.returns-in-Err
returns-in-Err c =
    -- The reply that is judged, from where its bytes are taken.
    let reply : Read c.args.strict (asked_of c.args.asked) c.args.hush c.args.replies.now c.args.place c.whole-reply.result.now = record { here = c.whole-reply.ensures } in
    -- Its first byte: 7F, or another.
    let is_negative : get_or c.whole-reply.result.now 0 0 ≡ 0x7f = sym c.byte_at.ensures ∙ c.if-byte_at-eq-NEGATIVE_RESPONSE.true in
    looked-refused reply c.if-reply-eq0.false is_negative c.in-Err.fault (ap verdict_of (sym c.in-Err.is) ∙ c.negative_checks.ensures)

pub returns-then-code-eq-RequestCorrectlyReceivedResponsePending : goal.returns-then-code-eq-RequestCorrectlyReceivedResponsePending
returns-then-code-eq-RequestCorrectlyReceivedResponsePending c =
    -- The reply that is judged, from where its bytes are taken.
    let reply : Read c.args.strict (asked_of c.args.asked) c.args.hush c.args.replies.now c.args.place c.whole-reply.result.now = record { here = c.whole-reply.ensures } in
    -- Its first byte: 7F, or another.
    let is_negative : get_or c.whole-reply.result.now 0 0 ≡ 0x7f = sym c.byte_at.ensures ∙ c.if-byte_at-eq-NEGATIVE_RESPONSE.true in
    let passed = ap verdict_of (sym c.in-Ok.is) ∙ c.negative_checks.ensures in
    looked-pending reply c.if-reply-eq0.false is_negative passed (sym c.byte_at-code.ensures ∙ c.if-code-eq-RequestCorrectlyReceivedResponsePending.true)

pub returns-in-Ok : goal.returns-in-Ok
returns-in-Ok c =
    -- The reply that is judged, from where its bytes are taken.
    let reply : Read c.args.strict (asked_of c.args.asked) c.args.hush c.args.replies.now c.args.place c.whole-reply.result.now = record { here = c.whole-reply.ensures } in
    -- Its first byte: 7F, or another.
    let is_negative : get_or c.whole-reply.result.now 0 0 ≡ 0x7f = sym c.byte_at.ensures ∙ c.if-byte_at-eq-NEGATIVE_RESPONSE.true in
    let passed = ap verdict_of (sym c.in-Ok.is) ∙ c.negative_checks.ensures in
    looked-negative reply c.if-reply-eq0.false is_negative passed c.byte_at-code.ensures c.if-code-eq-RequestCorrectlyReceivedResponsePending.false

pub returns-in-Err-positive_checks : goal.returns-in-Err-positive_checks
returns-in-Err-positive_checks c =
    -- The reply that is judged, from where its bytes are taken.
    let reply : Read c.args.strict (asked_of c.args.asked) c.args.hush c.args.replies.now c.args.place c.whole-reply.result.now = record { here = c.whole-reply.ensures } in
    let is-other : get_or c.whole-reply.result.now 0 0 ≢ 0x7f = rw c.byte_at.ensures at c.if-byte_at-eq-NEGATIVE_RESPONSE.false in
    looked-wrong reply c.if-reply-eq0.false is-other c.in-Err-positive_checks.fault (ap verdict_of (sym c.in-Err-positive_checks.is) ∙ c.positive_checks.ensures)

pub returns-in-Ok-positive_checks : goal.returns-in-Ok-positive_checks
returns-in-Ok-positive_checks c =
    -- The reply that is judged, from where its bytes are taken.
    let reply : Read c.args.strict (asked_of c.args.asked) c.args.hush c.args.replies.now c.args.place c.whole-reply.result.now = record { here = c.whole-reply.ensures } in
    let is-other : get_or c.whole-reply.result.now 0 0 ≢ 0x7f = rw c.byte_at.ensures at c.if-byte_at-eq-NEGATIVE_RESPONSE.false in
    let passed = ap verdict_of (sym c.in-Ok-positive_checks.is) ∙ c.positive_checks.ensures in
    looked-positive reply c.if-reply-eq0.false is-other passed c.head-before.ensures
