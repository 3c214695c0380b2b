-- `logs::writer::header_bytes` meets its contract.
use mathlib.Core.Path.{◌∙◌}
use native.Mathlib.Omega.{arith}
use Rattle.wire.proofs.BigEndian.{two_bytes, four_bytes}
use Rattle.logs.proofs.writer.header_bytes.Goals as goal

pub returns : goal.returns
returns c =
    rw (
      c.to_be_bytes.ensures ∙ two_bytes _ (omega arith),
      c.to_be_bytes-2.ensures ∙ two_bytes _ (omega arith),
      c.to_be_bytes-3.ensures ∙ two_bytes _ (omega arith),
      c.to_be_bytes-4.ensures ∙ two_bytes _ (omega arith),
      c.to_be_bytes-5.ensures ∙ two_bytes _ (omega arith),
      c.to_be_bytes-6.ensures ∙ two_bytes _ (omega arith),
      c.to_be_bytes-7.ensures ∙ two_bytes _ (omega arith),
      c.to_be_bytes-8.ensures ∙ two_bytes _ (omega arith),
      c.to_be_bytes-9.ensures ∙ two_bytes _ (omega arith),
      c.to_be_bytes-10.ensures ∙ two_bytes _ (omega arith),
      c.to_be_bytes-11.ensures ∙ four_bytes _ (omega arith),
      c.to_be_bytes-12.ensures ∙ four_bytes _ (omega arith),
      c.to_be_bytes-13.ensures ∙ four_bytes _ (omega arith),
    )
