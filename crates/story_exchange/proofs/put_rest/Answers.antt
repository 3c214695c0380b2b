-- `story_exchange::put_rest` meets its contract.
use Rattle.story_exchange.proofs.Going.{rest-next, rest-done}
use Rattle.story_exchange.proofs.put_rest.Goals as goal

pub loop-i-preserved : goal.loop-i-preserved
loop-i-preserved c =
    rest-next _ _ _ _ c.loop-i.invariant c.event_at-event.ensures c.loop-i-test.true c.put_unread-n.ensures
    c.put_unread-n.auto.text

pub returns : goal.returns
returns c = rest-done _ _ _ _ c.loop-i.invariant c.loop-i-test.false
