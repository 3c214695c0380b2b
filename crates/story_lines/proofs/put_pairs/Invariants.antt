-- `story_lines::put_pairs` meets its contract: so many bytes are written.
use lib.ListN.{take}
use Rattle.telling.specs.Words.{pairs}
use Rattle.text.specs.Written.{Adds}
use Rattle.story_lines.proofs.put_pairs.Given as goal

abbrev pub invariant-loop-b : goal.invariant-loop-b
invariant-loop-b l = Adds (pairs (take l.b-index l.bytes)) l.initial.text l.at l.n l.text
