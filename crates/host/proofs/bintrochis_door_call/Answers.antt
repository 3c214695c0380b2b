-- `host::bintrochis_door_call` meets its contract where the numbers ask a call.
use Rattle.std.proofs.Common.{length, subst, Some}
use Rattle.rules.specs.Logs.{Header}
use Rattle.door.specs.Door.{AskedFor}
use Rattle.host.proofs.Serving.{asks-in-bytes}
use Rattle.host.proofs.bintrochis_door_call.Goals as goal

pub returns : goal.returns
returns c =
    let x = c.args in
    let l = x.arguments.now in
    let asked = subst (λ (h : Header). AskedFor h x.limit (length l) (Some c.in-Some.ask)) c.fields-h.ensures c.in-Some.ensures in
    asks-in-bytes x.limit l asked.0 c.part-address.ensures c.part-size.ensures c.part-data.ensures asked.2
    (rw asked.3 at c.in_session-x.ensures) c.numbers.ensures
