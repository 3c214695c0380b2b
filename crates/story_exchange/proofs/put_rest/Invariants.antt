-- `story_exchange::put_rest` meets its contract.
use Rattle.exchange.specs.Meaning.{form_of}
use Rattle.story_exchange.proofs.Going.{Resting}
use Rattle.story_exchange.proofs.put_rest.Given as goal

abbrev pub invariant-loop-i : goal.invariant-loop-i
invariant-loop-i l = Resting (form_of l.form) l.lent.channel.listens l.lent.events.now l.lent.replies.now l.initial.text l.at l.first l.i-end l.i l.n l.text
