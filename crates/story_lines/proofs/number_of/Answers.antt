-- `story_lines::number_of` meets its contract.
use mathlib.Core.Path.{◌∙◌}
use Rattle.story_lines.proofs.Wording.{numbers}
use Rattle.story_lines.proofs.number_of.Goals as goal

pub returns-in-ProtocolDeviation : goal.returns-in-ProtocolDeviation
returns-in-ProtocolDeviation c = rw c.in-ProtocolDeviation.is (c.from.ensures ∙ numbers c.in-ProtocolDeviation.deviation)
