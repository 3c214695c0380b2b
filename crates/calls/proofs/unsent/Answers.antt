-- `calls::unsent` meets its contract.
use Rattle.calls.proofs.Running.{written_by}
use Rattle.calls.proofs.unsent.Goals as goal

pub returns : goal.returns
returns c before e =
    let x = c.args in
    let w = written_by c.decide.result.request x.address.now x.size.now x.«data».now before in
    (w.0, c.decide.ensures before w.0 e w.1)
