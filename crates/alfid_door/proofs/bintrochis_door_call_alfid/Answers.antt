-- `alfid_door::bintrochis_door_call_alfid` meets its contract where the numbers ask one of the four calls. (The check finds this goal too, near one of its limits.)
use Rattle.std.proofs.Common.{◌≡◌, true, length, subst, Some, rules}
use Rattle.rules.specs.Calls.{alfid}
use Rattle.rules.specs.Logs.{Header}
use Rattle.door.specs.Door.{has_alfid, AskedFor}
use Rattle.host.proofs.Serving.{asks-one}
use Rattle.alfid_door.proofs.bintrochis_door_call_alfid.Goals as goal

pub returns : goal.returns
returns c =
    let x = c.args in
    let d = x.«data».now in
    let has : has_alfid x.call ≡ true = search rules in
    let asked = subst (λ (h : Header). AskedFor h x.limit (length d) (Some c.in-Some.ask)) c.fields-h.ensures c.in-Some.ensures in
    asks-one x.limit (alfid x.address x.address_width x.wide) (alfid x.size x.size_width x.wide) d asked.2
    (rw asked.3 at c.run_alfid-x.ensures) (rw has asked.0) c.numbers.ensures
