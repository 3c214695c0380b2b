-- `story_exchange::put_exchange` meets its contract.
use Rattle.exchange.specs.Meaning.{asked_of, option_of, form_of}
use Rattle.story_exchange.proofs.Going.{Going}
use Rattle.story_exchange.proofs.put_exchange.Given as goal

abbrev pub invariant-loop-i : goal.invariant-loop-i
invariant-loop-i l =
    Going l.strict (asked_of l.asked) (option_of l.overall) (form_of l.channel.form) l.listens l.events l.replies l.initial.text l.at l.count l.i l.n l.state l.text
