-- `checks::handed::handed` meets its contract.
use native.Mathlib.Omega.{arith}
use Rattle.checks.proofs.Handing.{handed-there}
use Rattle.checks.proofs.handed.handed.Goals as goal

pub returns : goal.returns
returns c = handed-there _ _ _ _ c.part-reply.ensures _
    c.hands_out-span.ensures (omega arith) _ c.part.ensures
