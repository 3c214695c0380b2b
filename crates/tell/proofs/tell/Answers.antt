-- `tell` meets its contract.
use native.Mathlib.Omega.{arith}
use Rattle.telling.specs.Telling.{story}
use Rattle.text.proofs.Adding.{both}
use Rattle.tell.proofs.Room.{no_room, told}
use Rattle.tell.proofs.tell.Goals as goal

pub returns-then-text-lt-LONGEST : goal.returns-then-text-lt-LONGEST
returns-then-text-lt-LONGEST c = no_room _ _ c.if-text-lt-LONGEST.true

pub returns : goal.returns
unfolding story
returns c =
    told c.args.log.now c.args.text.now (λ i. omega (arith, c.type_inv.log i))
    c.if-text-lt-LONGEST.false (both c.put_telling-at.ensures c.put_last.ensures)
