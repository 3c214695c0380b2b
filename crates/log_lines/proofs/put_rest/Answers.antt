-- `put_rest` meets its contract.
use Rattle.log_lines.proofs.Batching.{bad-rest}
use Rattle.log_lines.proofs.put_rest.Goals as goal

pub returns : goal.returns
returns c =
    bad-rest c.args.left c.args.n c.args.out.now c.put_line_of.new.out
    c.put_line_of.result c.if-n-left.false c.if-out-lt-LONGEST.false c.put_line_of.ensures.0
