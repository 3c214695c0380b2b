-- `story_checks::put_row` meets its contract: the checks so far are told.
use mathlib.Core.List.{[]}
use Rattle.exchange.specs.Meaning.{outcome_of}
use Rattle.story_checks.specs.Coded.{failed_in}
use Rattle.story_checks.proofs.Rowing.{Rowing}
use Rattle.story_checks.proofs.put_row.Given as goal

abbrev pub invariant-loop-check : goal.invariant-loop-check
invariant-loop-check l = Rowing l.checks (failed_in (outcome_of [] l.after)) l.initial.text l.at l.n l.text l.check-index
