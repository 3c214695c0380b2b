-- `log_line::line_of` meets its contract.
use Rattle.log_line.proofs.Answering.{bad, sound}
use Rattle.log_line.proofs.line_of.Goals as goal

pub returns-in-None : goal.returns-in-None
returns-in-None c = bad c.args.log.now c.in-None.ensures c.put_line.ensures

pub returns-in-Some : goal.returns-in-Some
returns-in-Some c = sound c.args.log.now c.in-Some.ensures c.replies_of.ensures c.put_answer.ensures
