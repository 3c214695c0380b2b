-- A call as the code has it: what the exchange is asked, and the story from the request to the answer.
use Rattle.std.specs.Prelude.{ℕ, List, [], ◌++◌}
use Rattle.rules.specs.Events.{entries}
use Rattle.rules.specs.Exchange as rules
use Rattle.exchange.specs.Guarded.{guarded}
use Rattle.exchange.specs.Meaning.{form_of, asked_of, option_of, part_of, outcome_of, answer_of}
use Rattle.exchange.specs.declared.types.Answer.{Answer}
use Rattle.exchange.specs.declared.types.Asked.{Asked}
use Rattle.exchange.specs.declared.types.Timing.{Timing}
use Rattle.requests.specs.Parameters.{bit7}
use Rattle.requests.specs.Rows.{row_of}
use Rattle.calls.specs.declared.Ask.{Ask}
use Rattle.telling.specs.Story.{tell}
use Rattle.telling.specs.Words.{joined, begins, concludes}
use Rattle.story_checks.specs.Coded.{checks_by}

abbrev pub asked_by : Ask → Timing → Asked
asked_by ask session = record {
  sid = (row_of ask.call).sid;
  sub = bit7 ask.quiet (row_of ask.call).sub;
  timing = session;
  limit = ask.limit;
}

-- By the lengths of address and size.
abbrev pub call_text : Ask → Timing → List ℕ → ℕ → ℕ → List ℕ → List ℕ → Answer → List ℕ
call_text ask session request address size events replies answer =
    let a = asked_of (asked_by ask session) in
    let form = form_of ask.channel.form in
    let listens = ask.channel.listens in
    let heard = (guarded ask.strict a (option_of ask.overall) form listens events replies).outcome in
    begins ask.strict request (rules.start a) ++
    joined listens replies (tell ask.strict a (option_of ask.overall) listens replies (entries form events) (rules.start a)) ++
    checks_by ask.strict ask.call address size (part_of replies answer.reply).bytes heard (outcome_of [] answer.outcome) ++
    concludes (answer_of [] answer)
