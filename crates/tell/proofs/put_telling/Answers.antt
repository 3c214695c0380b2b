-- `tell::put_telling` meets its contract.
use mathlib.Core.Path.{subst}
use Rattle.log_call.specs.Asking.{RecordedIn}
use Rattle.text.proofs.Adding.{saying}
use Rattle.tell.proofs.Room.{unsound-told, sound-told}
use Rattle.tell.proofs.put_telling.Goals as goal

pub returns-in-None : goal.returns-in-None
returns-in-None c =
    saying
    (unsound-told c.args.log.now (subst (RecordedIn c.args.log.now) c.in-None.is c.recorded_in.ensures))
    c.put_off.ensures

pub returns-in-Some : goal.returns-in-Some
returns-in-Some c =
    saying
    (sound-told c.args.log.now (subst (RecordedIn c.args.log.now) c.in-Some.is c.recorded_in.ensures).0)
    c.put_sound.ensures
