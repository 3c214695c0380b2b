-- `story_exchange::put_settled` meets its contract.
use Rattle.text.proofs.Adding.{both}
use Rattle.story_exchange.proofs.put_settled.Goals as goal

pub returns : goal.returns
returns c = both (both (both c.put_event-a.ensures c.put_end-b.ensures) c.put_cut-c.ensures) c.put_rest.ensures
