-- `tick_door::bintrochis_door_tick` meets its contract where the engine is told the time.
use Rattle.std.proofs.Common.{◌≡◌, List, ℕ, Ok, Err, refl, subst}
use Rattle.steps.specs.declared.Engine.{Engine}
use Rattle.steps.specs.Stepping.{Stepped, stepped_in, tick_of}
use Rattle.steps.proofs.Unique.{never-zero}
use Rattle.state_numbers.specs.Kept.{Told}
use Rattle.step_door.proofs.Ways.{step-refused, step-taken}
use Rattle.tick_door.proofs.bintrochis_door_tick.Goals as goal

abbrev ticks : ℕ → Engine → Stepped → Type 0
ticks t e y = y ≡ tick_of e t

pub returns-in-Ok : goal.returns-in-Ok
returns-in-Ok c =
    let a = c.args in
    let engine = c.in-Ok.engine in
    step-taken a.state.now (ticks a.time) c.if-s-ne-WAITING.false c.in-Some.ensures
    (subst (λ (e : Engine). ticks a.time e (stepped_in e (Ok engine))) c.engine_in.ensures c.in-Ok.ensures) refl
    (subst (λ (kept : List ℕ). Told engine kept engine.phase c.told.result) c.asking.ensures c.told.ensures)

pub returns-in-Err : goal.returns-in-Err
returns-in-Err c =
    let a = c.args in
    rw c.from.ensures (step-refused a.state.now (ticks a.time) c.if-s-ne-WAITING.false c.in-Some.ensures
    (subst (λ (e : Engine). ticks a.time e (stepped_in e (Err c.in-Err.refusal))) c.engine_in.ensures c.in-Err.ensures) (never-zero c.in-Err.refusal))
