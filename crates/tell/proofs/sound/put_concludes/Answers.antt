-- `sound::put_concludes` meets its contract.
use Rattle.telling.specs.Words.{concludes}
use Rattle.text.proofs.Adding.{appends, both}
use Rattle.tell.proofs.sound.put_concludes.Goals as goal

pub returns : goal.returns
unfolding concludes
returns c =
    both
    (both (both (both (both (both (appends c.append-a.ensures)
    (appends c.append_decimal-b.ensures))
    (appends c.append-c.ensures))
    (appends c.append_decimal-d.ensures))
    (appends c.append-e.ensures))
    (appends c.append_decimal-f.ensures))
    (appends c.append.ensures)
