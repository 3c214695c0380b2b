-- `bench_line::serve` meets its contract.
use Rattle.bench_line.proofs.Answering.{served}
use Rattle.bench_line.proofs.serve.Goals as goal

pub returns : goal.returns
returns c = served c.zeros-buffer.ensures c.requires.0 c.respond-response.ensures c.tell.ensures
