-- `sound::put_refusal` meets its contract.
use Rattle.telling.specs.Words.{declined}
use Rattle.text.proofs.Adding.{appends, both}
use Rattle.tell.proofs.sound.put_refusal.Goals as goal

pub returns : goal.returns
unfolding declined
returns c =
    rw (← c.about.ensures)
    (both (both (appends c.append-a.ensures) (appends c.append_decimal-b.ensures)) (appends c.append.ensures))
