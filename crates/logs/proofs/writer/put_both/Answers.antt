-- `writer::put_both` meets its contract.
use native.Mathlib.Omega.{arith}
use mathlib.Core.List.{◌++◌}
use lib.ListN.{length-append}
use borrow.Author.Tests.{not-true, not-false}
use Rattle.wire.proofs.Buffers.{no_room}
use Rattle.logs.proofs.Copying.{neither, both}
use Rattle.logs.proofs.writer.put_both.Goals as goal

pub returns-then-at-buffer : goal.returns-then-at-buffer
returns-then-at-buffer c =
    let x = c.args in
    no_room x.buffer.now x.at (x.front.now ++ x.behind.now) (simp length-append (omega arith))

pub returns-then-not-copy_into : goal.returns-then-not-copy_into
returns-then-not-copy_into c =
    let x = c.args in
    neither x.buffer.now x.at x.front.now x.behind.now (rw (not-true c.copy_into.result c.if-not-copy_into.true-raw) at c.copy_into.ensures)

pub returns : goal.returns
returns c =
    let x = c.args in
    both x.buffer.now x.at x.front.now x.behind.now (rw (not-false c.copy_into.result c.if-not-copy_into.false-raw) at c.copy_into.ensures) c.copy_into-2.ensures
