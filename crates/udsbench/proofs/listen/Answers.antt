-- `udsbench::listen` meets its contract: what came was heard, to the end of the input.
use Rattle.std.proofs.Common.{ℕ, List, length, length-take, ap, arith}
use Rattle.udsbench.proofs.Reading.{none, more, still, answered, nothing-left}
use Rattle.udsbench.proofs.listen.Goals as goal

pub loop-init : goal.loop-init
loop-init g c = rw c.none-kept.ensures (none _ _ _)

pub loop-preserved : goal.loop-preserved
loop-preserved g c =
    let (piece, taken, said, (long, heard)) = rw c.if-not-branch.false at c.in_ok-read_on.ensures in
    more c.loop.invariant piece taken said long heard

pub returns-in_ok-answer : goal.returns-in_ok-answer
returns-in_ok-answer g c =
    let (piece, taken, said, (end, none, same)) = rw c.if-not-branch.true at c.in_ok-read_on.ensures in
    let line = c.line.ensures.bytes in
    let long = ap (λ (k : List ℕ). length k) line in
    answered (still c.loop.invariant piece taken said none same) end _ (omega (arith, long, c.line.ensures.long, c.if-kept-gt0.true)) (rw line at c.in_ok-answer.ensures.said)

pub returns-else-kept-gt0 : goal.returns-else-kept-gt0
returns-else-kept-gt0 g c =
    let (piece, taken, said, (end, none, same)) = rw c.if-not-branch.true at c.in_ok-read_on.ensures in
    let kept = c.read_on.new.kept in
    nothing-left (still c.loop.invariant piece taken said none same) end (omega (arith, length-take kept.len kept.bytes, c.if-kept-gt0.false))
