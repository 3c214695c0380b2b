-- `sound::mode` meets its contract.
use Rattle.tell.proofs.sound.mode.Goals as goal

pub returns-then-strict : goal.returns-then-strict
returns-then-strict c = rw c.if-strict.true

pub returns-else-strict : goal.returns-else-strict
returns-else-strict c = rw c.if-strict.false
