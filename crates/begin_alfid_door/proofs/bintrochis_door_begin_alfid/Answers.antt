-- `begin_alfid_door::bintrochis_door_begin_alfid` meets its contract where the numbers ask one of the four calls.
use Rattle.std.proofs.Common.{◌≡◌, true, length, subst, Some, rules}
use Rattle.rules.specs.Calls.{alfid}
use Rattle.rules.specs.Logs.{Header}
use Rattle.door.specs.Door.{has_alfid, AskedFor}
use Rattle.step_door.proofs.Ways.{begins-one}
use Rattle.begin_alfid_door.proofs.bintrochis_door_begin_alfid.Goals as goal

pub returns : goal.returns
returns c =
    let x = c.args in
    let d = x.«data».now in
    let has : has_alfid x.call ≡ true = search rules in
    let asked = subst (λ (h : Header). AskedFor h x.limit (length d) (Some c.in-Some.ask)) c.fields-h.ensures c.in-Some.ensures in
    let v = alfid x.address x.address_width x.wide in
    let u = alfid x.size x.size_width x.wide in
    begins-one (rw has asked.0) asked.2 (rw (asked.2.call v u d) at (rw asked.3 at c.begin_alfid-engine.ensures)) c.told.ensures
