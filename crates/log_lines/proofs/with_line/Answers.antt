-- `with_line` meets its contract.
use native.Mathlib.Omega.{arith}
use Rattle.exchange.proofs.Entries.{are-bytes}
use Rattle.log_lines.proofs.Batching.{whole-goes, long-goes}
use Rattle.log_lines.proofs.with_line.Goals as goal

pub returns-then-size-gt-MOST : goal.returns-then-size-gt-MOST
returns-then-size-gt-MOST c =
    let x = c.args in
    long-goes x.b x.input.now c.u32_at-size.result c.u32_at-size.ensures x.out.now x.said.now
    c.if-b-gt0.false c.requires.1 c.requires.2 c.if-rest-lt4.false c.passed.result c.put_line_of.new.out
    c.put_length.new.said c.put_line_of.result c.number-logs.result c.put_length.result
    (are-bytes x.input.now (λ i. omega (arith, c.type_inv.input i))) c.if-size-gt-MOST.true
    c.number-logs.ensures c.put_line_of.ensures.0 c.put_line_of.ensures.1
    c.put_length.ensures.0 c.put_length.ensures.1 c.passed.ensures

pub returns : goal.returns
returns c =
    let x = c.args in
    whole-goes x.b x.input.now c.u32_at-size.result c.u32_at-size.ensures x.out.now x.said.now
    c.if-b-gt0.false c.requires.1 c.requires.2 c.if-rest-lt4.false
    c.put_line_of-written.new.out c.put_line_of-written.result c.number-logs.result c.if-size-rest.false
    c.if-size-gt-MOST.false c.number-logs.ensures
    c.put_line_of-written.ensures.0 c.put_line_of-written.ensures.1
