-- `checks::check` meets its contract.
use Rattle.checks.proofs.Answering.{check-failed, check-passed}
use Rattle.checks.proofs.check.Goals as goal

pub returns-in-Err : goal.returns-in-Err
returns-in-Err c =
    let x = c.args in
    check-failed x.strict x.call x.address.now x.size.now x.replies.now x.place _ c.part.ensures _
    c.verdict.ensures _ c.in-Err.is

pub returns-in-Ok : goal.returns-in-Ok
returns-in-Ok c =
    let x = c.args in
    check-passed x.strict x.call x.address.now x.size.now x.replies.now x.place _ c.part.ensures _
    c.verdict.ensures c.in-Ok.is _ c.handed.ensures
