-- `story_exchange::put_going` meets its contract.
use Rattle.text.proofs.Adding.{both}
use Rattle.story_exchange.proofs.put_going.Goals as goal

pub returns : goal.returns
returns c = both c.put_event-a.ensures c.put_on.ensures
