-- `story_exchange::put_exchange` meets its contract.
use Prim.Native.Nat.{◌≤◌}
use native.Mathlib.Omega.{arith}
use mathlib.Core.Path.{◌≡◌, sym, ◌∙◌}
use mathlib.Core.List.{◌++◌}
use Rattle.exchange.specs.Meaning.{form_of, option_of}
use Rattle.text.proofs.Adding.{saying}
use Rattle.story_exchange.specs.Ends.{silent_text, rest_text}
use Rattle.story_exchange.proofs.Going.{first, no_more, too-late, after_on, ends_it}
use Rattle.story_exchange.proofs.put_exchange.Goals as goal

pub loop-i-init : goal.loop-i-init
loop-i-init c = first _ _ _ _ _ _ _ c.event_count-count.ensures c.start-state.ensures

pub loop-i-preserved : goal.loop-i-preserved
loop-i-preserved c =
    after_on _ _ _ _ _ _ _ c.loop-i.invariant c.event_at-event.ensures c.loop-i-test.true (omega arith) c.turn.ensures
    (sym c.is_read.ensures ∙ c.if-not-is_read.false) c.in-On.is c.put_going-n.ensures
    c.put_going-n.auto.text

pub returns-then-not-is_read : goal.returns-then-not-is_read
returns-then-not-is_read c =
    too-late _ _ _ _ _ _ _ c.loop-i.invariant c.event_at-event.ensures c.loop-i-test.true
    (sym c.is_read.ensures ∙ c.if-not-is_read.true) c.put_silence.ensures

pub returns-in-Ends : goal.returns-in-Ends
returns-in-Ends c =
    -- A count fits its type.
    let room : c.event_count-count.result ≤ 18446744073709551615 = omega arith in
    ends_it _ _ _ _ _ _ _ c.loop-i.invariant c.event_at-event.ensures c.loop-i-test.true room
    c.turn.ensures (sym c.is_read.ensures ∙ c.if-not-is_read.false) c.in-Ends.is
    c.put_settled.ensures

pub returns : goal.returns
returns c =
    let all : c.loop-i.i ≡ c.event_count-count.result = omega arith in
    no_more _ _ _ _ _ _ _ c.loop-i.invariant c.loop-i-test.false (saying
    (λ j. silent_text (option_of c.args.overall) c.loop-i.state.deadline c.loop-i.state.hush ++
    rest_text (form_of c.args.channel.form) c.args.channel.listens c.args.events.now c.args.replies.now (sym all j))
    c.put_silence-2.ensures)
