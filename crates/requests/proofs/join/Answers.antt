-- `requests::join` meets its contract.
use Rattle.requests.proofs.Requests.{joined}
use Rattle.requests.proofs.join.Goals as goal

pub returns : goal.returns
returns c =
    let a = c.args in
    joined a.buffer.now a.head.now a.address.now a.size.now a.«data».now c.requires c.copy_into.ensures.buffer
    c.copy_into-2.ensures.buffer c.copy_into-3.ensures.buffer c.copy_into-4.ensures.buffer
