-- `off_field::put_should` meets its contract.
use Rattle.std.proofs.Common.{rules}
use borrow.Author.Tests.{ne_eqb}
use Rattle.text.proofs.Adding.{appends, both}
use Rattle.off_field.proofs.put_should.Goals as goal

pub returns : goal.returns
returns c = rw (ne_eqb _ _ c.if-least-most.false) (search (rules, both, appends))
