-- `report::put_field` meets its contract.
use Rattle.udsmend.proofs.Texts.{same-field}
use Rattle.udsmend.proofs.report.put_field.Goals as goal

pub returns-then-old-new-clause-put : goal.returns-then-old-new-clause-put
returns-then-old-new-clause-put c =
    let x = c.args in
    same-field x.text.now x.name.now x.at x.old x.new c.if-old-new.true
