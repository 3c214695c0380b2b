-- `header_bytes` meets its contract.
use mathlib.Core.Path.{◌∙◌}
use native.Mathlib.Omega.{arith}
use Rattle.book.proofs.Bytes.{two_bytes, four_bytes}
use Rattle.book.proofs.writer.header_bytes.Goals as goal

pub returns : goal.returns
returns c =
    rw (
      c.to_be_bytes.ensures ∙ two_bytes _ (omega arith),
      c.to_be_bytes-2.ensures ∙ four_bytes _ (omega arith),
      c.to_be_bytes-3.ensures ∙ four_bytes _ (omega arith),
      c.to_be_bytes-4.ensures ∙ four_bytes _ (omega arith),
      c.start-at.ensures,
    )
