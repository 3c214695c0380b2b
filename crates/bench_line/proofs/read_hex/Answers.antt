-- `bench_line::read_hex` meets its contract: the bytes of i pairs stand at the front.
use Rattle.std.proofs.Common.{◌∙◌, arith}
use Rattle.bench_line.proofs.Reading.{digits-more, pair-more}
use Rattle.bench_line.proofs.read_hex.Goals as goal

pub loop-i-preserved : goal.loop-i-preserved
loop-i-preserved c = record {
  digits = digits-more _ c.loop-i.i (omega arith) c.in_ok-nibble.ensures c.in_ok-request.ensures ∙ c.loop-i.invariant.digits;
  read = pair-more _ c.loop-i.i (omega arith) c.in_ok-nibble.ensures c.in_ok-request.ensures _ (omega arith) c.loop-i.invariant.read;
}
