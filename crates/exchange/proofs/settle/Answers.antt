-- `exchange::settle` meets its contract.
use Prim.Native.Nat.{ℕ, ◌<◌}
use mathlib.Core.Path.{refl, subst}
use Rattle.exchange.proofs.Settling.{held_first, no_more, in-time-as, too-late, next-whole, after-idle, after_on, ends_it}
use Rattle.exchange.specs.Meaning.{option_of}
use Rattle.exchange.proofs.settle.Goals as goal

pub loop-i-init : goal.loop-i-init
loop-i-init c =
    held_first (option_of c.args.overall) c.requires c.event_count-n.ensures c.start-state.ensures

-- An event is whole where the list has one more.
pub time_in-time-requires : goal.time_in-time-requires
time_in-time-requires c = rw (← c.event_count-n.ensures) c.if-i-n.false

pub kind_in-requires : goal.kind_in-requires
kind_in-requires c = rw (← c.event_count-n.ensures) c.if-i-n.false

pub loop-i-preserved-then-kind_in-eq1 : goal.loop-i-preserved-then-kind_in-eq1
loop-i-preserved-then-kind_in-eq1 c =
    -- The overall timeout, seen from a list with one event more.
    let overall = option_of c.args.overall in
    after-idle overall c.loop-i.invariant c.if-i-n.false c.time_in-time.ensures c.kind_in.ensures c.if-time-state.false c.if-kind_in-eq1.true
    c.passed-state.ensures

pub event_in-event-requires : goal.event_in-event-requires
event_in-event-requires c =
    rw (← c.event_count-n.ensures) c.if-i-n.false

pub whole_turn-requires : goal.whole_turn-requires
whole_turn-requires c =
    -- The overall timeout, seen from a list with one event more.
    let overall = option_of c.args.overall in
    next-whole overall c.loop-i.invariant c.event_in-event.ensures c.if-i-n.false

-- Behind a turn: the event and its turn, with what was read of it before.
pub loop-i-preserved : goal.loop-i-preserved
loop-i-preserved c =
    -- The overall timeout, seen from a list with one event more.
    let overall = option_of c.args.overall in
    let here = c.event_in-event.ensures in
    let held = c.loop-i.invariant in
    after_on overall held here c.if-i-n.false c.whole_turn.ensures
    (in-time-as overall held c.time_in-time.ensures here c.if-time-state.false) c.in-On.is

pub returns-then-i-n : goal.returns-then-i-n
returns-then-i-n c =
    no_more (option_of c.args.overall) c.loop-i.invariant c.silence.ensures c.under-answer.ensures c.if-i-n.true

pub returns-then-time-state : goal.returns-then-time-state
returns-then-time-state c =
    -- The overall timeout, seen from a list with one event more.
    let overall = option_of c.args.overall in
    let held = c.loop-i.invariant in
    too-late overall held refl c.if-i-n.false c.silence-then-time-state.ensures c.under-answer-then-time-state.ensures
    (subst (λ (t : ℕ). c.loop-i.state.deadline < t) c.time_in-time.ensures c.if-time-state.true)

pub returns-in-Ends : goal.returns-in-Ends
returns-in-Ends c =
    -- The overall timeout, seen from a list with one event more.
    let overall = option_of c.args.overall in
    let here = c.event_in-event.ensures in
    let held = c.loop-i.invariant in
    ends_it overall held here c.if-i-n.false c.whole_turn.ensures
    (in-time-as overall held c.time_in-time.ensures here c.if-time-state.false) c.in-Ends.is c.under-answer-in-Ends.ensures
