-- `put_length` meets its contract.
use native.Mathlib.Omega.{arith}
use Rattle.log_lines.proofs.Saying.{length-put, length-ends}
use Rattle.log_lines.proofs.put_length.Goals as goal

pub returns : goal.returns
returns c = (
  length-put c.args.said.now _ _ c.args.at c.args.log c.args.size c.put_counted-n.result
      c.put_item.result c.requires (omega arith) (omega arith) c.put_counted-n.auto.line
      c.put_counted-n.ensures c.put_item.ensures,
  omega (
    arith,
    length-ends c.args.said.now _ _ c.args.at c.args.log c.args.size c.put_counted-n.result
        c.put_item.result c.requires (omega arith) (omega arith) c.put_counted-n.auto.line
        c.put_counted-n.ensures c.put_item.ensures,
    c.put_item.auto.line,
    c.put_counted-n.auto.line,
  ),
)
