-- `story_checks::put_lenient` meets its contract.
use mathlib.Core.Path.{sym, ◌∙◌, ap}
use Rattle.telling.specs.Checks.{lenient_line, lenient_text}
use Rattle.text.proofs.Adding.{both, saying}
use Rattle.story_checks.specs.Coded.{wanted_of}
use Rattle.story_checks.proofs.put_lenient.Goals as goal

pub returns-then-is_overflow : goal.returns-then-is_overflow
unfolding lenient_text wanted_of
returns-then-is_overflow c =
    rw (sym c.is_overflow.ensures ∙ c.if-is_overflow.true) (both c.put_lengths-a.ensures c.put_check.ensures)

pub returns : goal.returns
unfolding lenient_text
returns c =
    rw (sym c.is_overflow.ensures ∙ c.if-is_overflow.false) (saying (ap lenient_line c.is_positive.ensures) c.put_lengths.ensures)
