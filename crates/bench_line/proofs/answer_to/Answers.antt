-- `bench_line::answer_to` meets its contract.
use Rattle.std.proofs.Common.{arith}
use Rattle.text.proofs.Writing.{was-put}
use Rattle.bench_line.proofs.Answering.{unreadable}
use Rattle.bench_line.proofs.answer_to.Goals as goal

pub returns-in-None : goal.returns-in-None
returns-in-None c = unreadable c.args.store.now c.args.asked.now c.in-None.ensures (was-put _ _ _ (omega arith) c.append.ensures)
