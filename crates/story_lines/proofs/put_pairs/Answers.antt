-- `story_lines::put_pairs` meets its contract.
use Rattle.text.proofs.Adding.{appends, both, nothing, saying}
use Rattle.story_lines.proofs.Wording.{pairs_next}
use Rattle.story_lines.proofs.put_pairs.Goals as goal

pub loop-b-init : goal.loop-b-init
loop-b-init c = nothing _ _

pub loop-b-preserved : goal.loop-b-preserved
loop-b-preserved c = saying (pairs_next _ _ c.loop-b-test.true) (both c.loop-b.invariant (appends c.append_byte-n.ensures))
