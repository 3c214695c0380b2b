-- `begin_door::bintrochis_door_begin` meets its contract where the numbers ask a call.
use Rattle.std.proofs.Common.{length, subst, Some}
use Rattle.rules.specs.Logs.{Header}
use Rattle.door.specs.Door.{AskedFor}
use Rattle.step_door.proofs.Ways.{begins-one, chosen-in-bytes}
use Rattle.begin_door.proofs.bintrochis_door_begin.Goals as goal

pub returns : goal.returns
returns c =
    let x = c.args in
    let l = x.arguments.now in
    let asked = subst (λ (h : Header). AskedFor h x.limit (length l) (Some c.in-Some.ask)) c.fields-h.ensures c.in-Some.ensures in
    begins-one asked.0 asked.2
    (chosen-in-bytes asked.2 x.limit l c.part-address.ensures c.part-size.ensures c.part-data.ensures (rw asked.3 at c.begin-engine.ensures))
    c.told.ensures
