-- `off_field::rows` meets its contract: row by row.
use Rattle.std.proofs.Common.{rules}
use Rattle.off_field.proofs.rows.Goals as goal

pub returns : goal.returns
returns c =
    rw (
      c.between.ensures,
      c.between-2.ensures,
      c.between-3.ensures,
      c.between-4.ensures,
      c.between-5.ensures,
      c.between-6.ensures,
      c.between-7.ensures,
      c.between-8.ensures,
      c.between-9.ensures,
      c.between-10.ensures,
      c.between-11.ensures,
      c.between-12.ensures,
      c.between-13.ensures,
      c.exactly.ensures,
      c.exactly-2.ensures,
      c.exactly-3.ensures,
      c.exactly-4.ensures,
    ) (search rules)
