-- What becomes of an exchange that is not refused: the checks behind a positive, the number, the session's timing.
use Rattle.std.specs.Prelude.{ℕ, ◌≡◌, List}
use Rattle.rules.specs.After.{checked, number_of, timing_of}
use Rattle.rules.specs.Answers.{if_positive}
use Rattle.exchange.specs.Meaning.{part_of, outcome_of, timed}
use Rattle.exchange.specs.Places.{InsideOutcome}
use Rattle.exchange.specs.declared.types.Outcome.{Outcome}
use Rattle.exchange.specs.declared.types.Answer.{Answer}
use Rattle.exchange.specs.declared.types.Timing.{Timing}
use Rattle.requests.specs.Meaning.{bare}
use Rattle.checks.specs.Answered.{asked, answered, fitting}
use Rattle.calls.specs.declared.Ask.{Ask}
use Rattle.calls.specs.declared.Answered.{Answered}

-- The outcome that was heard, or behind a positive what its checks make of it.
pub record Rechecked (ask : Ask) (a s replies : List ℕ) (heard : Answer) (r : Outcome) : Type 0 where
  pub means : outcome_of replies r ≡ if_positive (outcome_of replies heard.outcome)
      (λ p. answered replies (checked ask.strict (asked ask.call a s) (part_of replies heard.reply)))
      (outcome_of replies heard.outcome)
  pub inside : InsideOutcome replies r

pub record Concluded (session : Timing) (ask : Ask) (long : ℕ) (a s replies : List ℕ) (heard : Answer) (r : Answered) : Type 0 where
  pub outcome : Rechecked ask a s replies heard r.answer.outcome
  pub time : r.answer.time ≡ heard.time
  pub events : r.answer.events ≡ heard.events
  pub notices : r.answer.notices ≡ heard.notices
  pub reply : r.answer.reply ≡ heard.reply
  pub number : r.number ≡ fitting (number_of (bare ask.call) (outcome_of replies r.answer.outcome))
  pub sent : r.sent ≡ long
  pub timing : timed r.timing ≡ timing_of ask.server (bare ask.call) (outcome_of replies r.answer.outcome) (timed session)
