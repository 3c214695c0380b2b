-- `put_events` meets its contract: behind i turns the first i events stand in the buffer.
use Prim.Native.Nat.{◌+◌, ◌*◌, ◌/◌}
use native.Mathlib.Omega.{arith}
use mathlib.Core.Path.{◌≡◌, sym, ◌∙◌, ap}
use lib.ListN.{length}
use Rattle.rules.specs.Events.{plain, event_size}
use Rattle.rules.proofs.Laying.{entries-length}
use Rattle.exchange.specs.Meaning.{form_of}
use Rattle.mending.proofs.Runs.{fewer_bytes}
use Rattle.captured.specs.Capture.{from}
use Rattle.captured.proofs.Putting.{none-put, next-put, all-first}
use Rattle.captured.proofs.put_events.Goals as goal

pub loop-i-init : goal.loop-i-init
loop-i-init c = let x = c.args in rw (none-put (form_of x.form) x.source x.events.now)

pub loop-i-preserved : goal.loop-i-preserved
loop-i-preserved c =
    let x = c.args in
    let form = form_of x.form in
    let n : c.event_count-i-end.result * event_size form ≡ length x.out.now =
    sym (c.requires ∙ ap (λ k. k * event_size form) (entries-length plain x.events.now (length x.events.now / 10) 0 ∙ sym c.event_count-i-end.ensures)) in
    next-put form x.source x.events.now x.out.now c.loop-i.out c.put_event.new.buffer c.loop-i.i
    (omega (arith, n, fewer_bytes form (c.loop-i.i + 1) c.event_count-i-end.result (omega arith)))
    (c.sent_from-event.ensures ∙ ap (from x.source) c.event_at.ensures) c.loop-i.invariant (rw c.event_size-size.ensures at c.put_event.ensures)

pub returns : goal.returns
returns c =
    let x = c.args in
    let form = form_of x.form in
    let all : c.loop-i.i ≡ length x.events.now / 10 = omega (arith, c.event_count-i-end.ensures) in
    let full : length x.out.now ≡ c.loop-i.i * event_size form = rw all (c.requires ∙ ap (λ k. k * event_size form) (entries-length plain x.events.now (length x.events.now / 10) 0)) in
    rw all at (all-first form x.source x.events.now x.out.now c.loop-i.out c.loop-i.i full c.loop-i.invariant)
