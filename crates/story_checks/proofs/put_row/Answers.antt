-- `story_checks::put_row` meets its contract.
use mathlib.Core.Path.{sym, ◌∙◌}
use Rattle.story_checks.proofs.Rowing.{first, passes, fails, all-passed}
use Rattle.story_checks.proofs.put_row.Goals as goal

pub loop-check-init : goal.loop-check-init
loop-check-init c = first _ _ _ _

pub returns-then-is_failed : goal.returns-then-is_failed
returns-then-is_failed c = fails c.loop-check.invariant _ c.loop-check-test.true (sym c.is_failed.ensures ∙ c.if-is_failed.true) c.put_check.ensures

pub loop-check-preserved : goal.loop-check-preserved
loop-check-preserved c = passes c.loop-check.invariant _ c.loop-check-test.true (sym c.is_failed.ensures ∙ c.if-is_failed.false) c.put_check-n.ensures

pub returns : goal.returns
returns c = all-passed c.loop-check.invariant c.loop-check-test.false
