-- `sound::put_begins` meets its contract.
use Rattle.telling.specs.Words.{begins}
use Rattle.text.proofs.Adding.{appends, both}
use Rattle.tell.proofs.sound.put_begins.Goals as goal

pub returns : goal.returns
unfolding begins
returns c =
    rw (← c.mode.ensures, ← c.quiet.ensures)
    (both
    (both (both (both (both (appends c.append-a.ensures) c.put_shown-b.ensures) (appends c.append-c.ensures)) (appends c.append-d.ensures))
    (appends c.append_decimal-e.ensures))
    (appends c.append.ensures))
