-- `logs::writer::event_bytes` meets its contract.
use mathlib.Core.Path.{◌∙◌}
use native.Mathlib.Omega.{arith}
use Rattle.wire.proofs.BigEndian.{two_bytes, four_bytes}
use Rattle.logs.proofs.writer.event_bytes.Goals as goal

pub returns : goal.returns
returns c =
    rw (
      c.to_be_bytes.ensures ∙ four_bytes _ (omega arith),
      c.to_be_bytes-2.ensures ∙ two_bytes _ (omega arith),
      c.to_be_bytes-3.ensures ∙ two_bytes _ (omega arith),
      c.to_be_bytes-4.ensures ∙ two_bytes _ (omega arith),
      c.to_be_bytes-5.ensures ∙ two_bytes _ (omega arith),
    )
