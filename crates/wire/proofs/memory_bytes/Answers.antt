-- `wire::memory_bytes` meets its contract.
use native.Mathlib.Omega.{arith}
use mathlib.Core.Path.{◌≡◌}
use borrow.Author.Tests.{le-leb, lt-leb}
use Rattle.wire.proofs.Numbers.{widest-most, byte_more, rest-less, written, too-narrow}
use Rattle.wire.specs.Memory.{memory_bytes}
use Rattle.wire.proofs.memory_bytes.Goals as goal

pub returns-then-width-lt1 : goal.returns-then-width-lt1
unfolding memory_bytes
returns-then-width-lt1 c = rw (lt-leb _ _ c.if-width-lt1.true)

pub returns-then-width-widest : goal.returns-then-width-widest
unfolding memory_bytes
returns-then-width-widest c =
    let over = rw c.widest.ensures at c.if-width-widest.true in
    rw (le-leb _ _ c.if-width-lt1.false, lt-leb _ _ over)

pub loop-written-preserved : goal.loop-written-preserved
loop-written-preserved c =
    let a = c.args in
    let most = widest-most a.wide in
    let room = c.widest.ensures in
    let l = c.loop-written in (
      rw l.invariant.0 (rest-less a.value l.written),
      rw (l.invariant.1, l.invariant.0) (byte_more _ a.width a.value l.written (omega arith) (omega arith)),
    )

pub returns-then-rest-gt0 : goal.returns-then-rest-gt0
returns-then-rest-gt0 c =
    let a = c.args in
    let room = c.widest.ensures in
    let l = c.loop-written in
    let all : l.written ≡ a.width = omega arith in
    too-narrow a.width a.value a.wide (omega arith) (omega arith) (rw (l.invariant.0, all) at c.if-rest-gt0.true)

pub returns : goal.returns
returns c =
    let a = c.args in
    let room = c.widest.ensures in
    let l = c.loop-written in
    let all : l.written ≡ a.width = omega arith in
    written a.width a.value a.wide (omega arith) (omega arith) l.bytes (rw (l.invariant.0, all) at c.if-rest-gt0.false) (rw all at l.invariant.1)
