-- `faults::count` meets its contract.
use Rattle.std.proofs.Common.{◌/◌, length, arith}
use Rattle.faults.proofs.Laws.{count_turn, one-most}
use Rattle.faults.proofs.count.Goals as goal

pub loop-i-preserved : goal.loop-i-preserved
loop-i-preserved c =
    let next = count_turn c.args.mask c.args.records.now (length c.args.records.now / 4) c.loop-i.i c.loop-i-test.true c.matches.ensures in
    (omega (arith, one-most c.matches.result, c.loop-i.invariant.0), omega (arith, next, c.loop-i.invariant.1))
