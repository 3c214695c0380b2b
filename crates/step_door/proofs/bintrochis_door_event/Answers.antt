-- `step_door::bintrochis_door_event` meets its contract where the engine is handed the event.
use Rattle.std.proofs.Common.{ℕ, List, refl, subst}
use Rattle.steps.specs.declared.Engine.{Engine}
use Rattle.steps.specs.Stepping.{Stepped, Hands}
use Rattle.steps.proofs.Unique.{never-zero}
use Rattle.state_numbers.specs.Kept.{Told}
use Rattle.step_door.specs.Stepping.{address_in, size_in, entry}
use Rattle.step_door.proofs.Ways.{step-refused, step-taken}
use Rattle.step_door.proofs.bintrochis_door_event.Goals as goal

pub returns-in-Ok : goal.returns-in-Ok
returns-in-Ok c =
    let a = c.args in
    let l = a.state.now in
    let hands : Engine → Stepped → Type 0 = λ e y. Hands e (address_in l a.request.now) (size_in l a.request.now) (entry a.time a.kind a.offset a.size a.source) a.replies.now y in
    let engine = c.in-Ok.engine in
    step-taken l hands c.if-s-ne-WAITING.false c.in-Some.ensures (rw (c.engine_in.ensures, c.part-address.ensures, c.part-size.ensures) at c.in-Ok.ensures) refl
    (subst (λ (kept : List ℕ). Told engine kept engine.phase c.told.result) c.asking.ensures c.told.ensures)

pub returns-in-Err : goal.returns-in-Err
returns-in-Err c =
    let a = c.args in
    let l = a.state.now in
    let hands : Engine → Stepped → Type 0 = λ e y. Hands e (address_in l a.request.now) (size_in l a.request.now) (entry a.time a.kind a.offset a.size a.source) a.replies.now y in
    rw c.from.ensures (step-refused l hands c.if-s-ne-WAITING.false c.in-Some.ensures
    (rw (c.engine_in.ensures, c.part-address.ensures, c.part-size.ensures) at c.in-Err.ensures) (never-zero c.in-Err.refusal))
