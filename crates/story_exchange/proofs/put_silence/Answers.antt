-- `story_exchange::put_silence` meets its contract.
use Rattle.text.proofs.Adding.{both}
use Rattle.story_exchange.proofs.put_silence.Goals as goal

pub returns : goal.returns
returns c = both c.put_silent-a.ensures c.put_rest.ensures
