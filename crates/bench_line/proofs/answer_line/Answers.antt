-- `bench_line::answer_line` meets its contract.
use Rattle.bench_line.proofs.Answering.{whole}
use Rattle.bench_line.proofs.answer_line.Goals as goal

pub returns : goal.returns
returns c = whole _ _ _ c.if-line-lt-LONGEST.false c.unended.ensures c.answer_to.ensures
