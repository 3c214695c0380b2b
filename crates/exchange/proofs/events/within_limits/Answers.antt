-- `exchange::events::within_limits` meets its contract.
use Prim.Native.Nat.{◌+◌, ◌-◌}
use native.Mathlib.Omega.{arith}
use mathlib.Core.Path.{◌≡◌, sym, ◌∙◌}
use mathlib.Core.Bool.{Bool, true, false, ◌&&◌}
use borrow.Author.Tests.{lt-leb, eq-eqb, ne_eqb, not-true, not-false}
use Rattle.rules.specs.Events.{entries, entries_from, within_limits}
use Rattle.exchange.proofs.Entries.{limits, limits-fall, limits-go, no-entry, within, are-bytes}
use Rattle.exchange.specs.Meaning.{form_of, entry_of}
use Rattle.exchange.proofs.events.within_limits.Goals as goal

pub returns-then-events-size-ne0 : goal.returns-then-events-size-ne0
unfolding within_limits
returns-then-events-size-ne0 c = rw (← c.event_size-size.ensures, ne_eqb _ 0 c.if-events-size-ne0.true)

pub returns-then-n-gt512 : goal.returns-then-n-gt512
unfolding within_limits
returns-then-n-gt512 c =
    rw (← c.event_count-n.ensures, ← c.event_size-size.ensures, eq-eqb _ 0 c.if-events-size-ne0.false, lt-leb _ 512 c.if-n-gt512.true)

pub returns-then-event-last : goal.returns-then-event-last
returns-then-event-last c =
    let form = form_of c.args.form in
    -- Of a list with the right length, the times and the events decide.
    let decided : let a = c.args in (b : Bool) → b ≡ limits a.replies.now 0 (entries form a.events.now) → b ≡ within_limits form a.events.now a.replies.now = let a = c.args in
    within form a.events.now a.replies.now (rw (← c.event_size-size.ensures) c.if-events-size-ne0.false) (omega (arith, c.event_count-n.ensures, c.if-n-gt512.false)) in
    let l = c.loop-i in
    let a = c.args in
    let falls = limits-fall form a.replies.now a.events.now c.event_count-n.result l.i l.last
    (entry_of c.event_in-event.result) c.event_in-event.ensures c.loop-i-test.true c.if-event-last.true in
    decided false (sym falls ∙ l.invariant)

pub sound-requires : goal.sound-requires
sound-requires c =
    are-bytes c.args.replies.now (λ i. omega (arith, c.shared_slice_known-2-1.given i))

pub returns-then-not-sound : goal.returns-then-not-sound
returns-then-not-sound c =
    let form = form_of c.args.form in
    -- Of a list with the right length, the times and the events decide.
    let decided : let a = c.args in (b : Bool) → b ≡ limits a.replies.now 0 (entries form a.events.now) → b ≡ within_limits form a.events.now a.replies.now = let a = c.args in
    within form a.events.now a.replies.now (rw (← c.event_size-size.ensures) c.if-events-size-ne0.false) (omega (arith, c.event_count-n.ensures, c.if-n-gt512.false)) in
    -- An event whose time does not fall passes the question on to those behind it if it is sound.
    let goes : let l = c.loop-i in let a = c.args in (s : Bool) → s ≡ c.sound.result → (s && limits a.replies.now (entry_of c.event_in-event.result).time (entries_from form a.events.now (c.event_count-n.result - (l.i + 1)) (l.i + 1))) ≡ limits a.replies.now 0 (entries form a.events.now) = λ s e. let l = c.loop-i in
    let a = c.args in
    sym (limits-go form a.replies.now a.events.now c.event_count-n.result l.i l.last (entry_of c.event_in-event.result) c.event_in-event.ensures
    c.loop-i-test.true s (e ∙ c.sound.ensures) c.if-event-last.false) ∙ l.invariant in
    decided false
    (goes false (sym (not-true _ c.if-not-sound.true-raw)))

pub loop-i-preserved : goal.loop-i-preserved
loop-i-preserved c =
    let form = form_of c.args.form in
    -- An event whose time does not fall passes the question on to those behind it if it is sound.
    let goes : let l = c.loop-i in let a = c.args in (s : Bool) → s ≡ c.sound.result → (s && limits a.replies.now (entry_of c.event_in-event.result).time (entries_from form a.events.now (c.event_count-n.result - (l.i + 1)) (l.i + 1))) ≡ limits a.replies.now 0 (entries form a.events.now) = λ s e. let l = c.loop-i in
    let a = c.args in
    sym (limits-go form a.replies.now a.events.now c.event_count-n.result l.i l.last (entry_of c.event_in-event.result) c.event_in-event.ensures
    c.loop-i-test.true s (e ∙ c.sound.ensures) c.if-event-last.false) ∙ l.invariant in
    goes true (sym (not-false _ c.if-not-sound.false-raw))

pub returns : goal.returns
returns c =
    let form = form_of c.args.form in
    -- Of a list with the right length, the times and the events decide.
    let decided : let a = c.args in (b : Bool) → b ≡ limits a.replies.now 0 (entries form a.events.now) → b ≡ within_limits form a.events.now a.replies.now = let a = c.args in
    within form a.events.now a.replies.now (rw (← c.event_size-size.ensures) c.if-events-size-ne0.false) (omega (arith, c.event_count-n.ensures, c.if-n-gt512.false)) in
    let l = c.loop-i in
    let a = c.args in
    decided true
    (rw (no-entry form a.events.now c.event_count-n.result l.i c.loop-i-test.false) at l.invariant)
