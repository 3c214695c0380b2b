-- `off_field::put_row` meets its contract.
use Rattle.text.proofs.Adding.{appends, both}
use Rattle.off_field.proofs.put_row.Goals as goal

pub returns : goal.returns
returns c =
    both (appends c.append-a.ensures)
    (both (both (both (both (both (both (appends c.append-b.ensures) (appends c.append_decimal-c.ensures)) (appends c.append-d.ensures))
    (appends c.append_decimal-e.ensures)) (appends c.append-f.ensures)) c.put_should-g.ensures) (appends c.append.ensures))
