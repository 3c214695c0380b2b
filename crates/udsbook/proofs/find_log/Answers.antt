-- `find_log` meets its contract.
use mathlib.Core.Path.{◌∙◌}
use Rattle.udsbook.proofs.Holding.{found-log, not_found}
use Rattle.udsbook.proofs.find_log.Goals as goal

pub returns-in-Ok : goal.returns-in-Ok
returns-in-Ok c =
    let x = c.args in
    let k = found-log x.book.now x.n x.call x.k c.in-Ok.place (rw c.part.ensures at c.in-Ok.ensures) in
    record { out = c.part-in-Ok.ensures ∙ k.out; report = k.said }

pub returns-in-Err : goal.returns-in-Err
returns-in-Err c =
    let x = c.args in
    let k = not_found x.book.now x.n x.call x.k c.in-Err.refusal (rw c.part.ensures at c.in-Err.ensures) in
    record { out = k.out; report = c.refused.ensures ∙ k.said }
