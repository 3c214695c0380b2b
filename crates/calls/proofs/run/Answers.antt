-- `calls::run` meets its contract.
use mathlib.Core.Path.{refl}
use Rattle.calls.proofs.run.Goals as goal
use Rattle.calls.proofs.run.Goals.{in-Some, in-None}

pub returns : goal.returns
returns c =
    c.decide-decided.ensures c.args.request.now c.match-decided.request refl
    (elim c.match-decided.branch [
      | in-Some w ↦ rw (w.request-is, w.in-Some.is) (w.write.result, w.write.ensures)
      | in-None w ↦ rw (w.request-is, w.in-None.is) refl
    ])
