-- `story_checks::put_wanted` meets its contract.
use mathlib.Core.Path.{sym, ◌∙◌}
use Rattle.text.proofs.Adding.{appends, both, saying}
use Rattle.story_checks.proofs.Coding.{wanted-least, wanted-exactly, wanted-words}
use Rattle.story_checks.proofs.put_wanted.Goals as goal

pub returns-in-AtLeast : goal.returns-in-AtLeast
returns-in-AtLeast c =
    rw c.in-AtLeast.is (saying (sym (wanted-least c.in-AtLeast.least)) (both c.put_length-a.ensures (appends c.append.ensures)))

pub returns-in-Exactly : goal.returns-in-Exactly
returns-in-Exactly c = rw c.in-Exactly.is (saying (sym (wanted-exactly c.in-Exactly.length)) c.put_length.ensures)

pub returns-in_default : goal.returns-in_default
returns-in_default c =
    saying (c.words_of.ensures ∙ sym (wanted-words c.args.check c.in_default.not-AtLeast c.in_default.not-Exactly)) (appends c.append-in_default.ensures)
