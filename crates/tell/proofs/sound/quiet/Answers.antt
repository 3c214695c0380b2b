-- `sound::quiet` meets its contract.
use Rattle.tell.proofs.sound.quiet.Goals as goal

pub returns-then-hush : goal.returns-then-hush
returns-then-hush c = rw c.if-hush.true

pub returns-else-hush : goal.returns-else-hush
returns-else-hush c = rw c.if-hush.false
