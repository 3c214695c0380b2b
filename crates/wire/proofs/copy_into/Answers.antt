-- `wire::copy_into` meets its contract.
use native.Mathlib.Omega.{arith}
use native.Mathlib.Numerals.{add-one}
use mathlib.Core.Path.{◌≡◌, refl}
use lib.Seq.{paste-zero, paste-suc}
use lib.ListN.{length, length-set}
use Rattle.wire.proofs.Buffers.{no_room, room}
use Rattle.wire.proofs.copy_into.Goals as goal

pub returns-then-at-buffer : goal.returns-then-at-buffer
returns-then-at-buffer c = no_room c.args.buffer.now c.args.at c.args.source.now (omega arith)

pub returns-then-source-buffer : goal.returns-then-source-buffer
returns-then-source-buffer c = no_room c.args.buffer.now c.args.at c.args.source.now (omega arith)

pub loop-i-init : goal.loop-i-init
loop-i-init c = (paste-zero c.args.buffer.now c.args.at c.args.source.now, refl)

pub loop-i-preserved : goal.loop-i-preserved
loop-i-preserved c =
    let a = c.args in
    let l = c.loop-i in (
      rw (l.invariant.0, add-one) (paste-suc a.buffer.now a.at a.source.now l.i 0 (omega arith) (omega arith)),
      rw length-set l.invariant.1,
    )

pub returns : goal.returns
returns c =
    let a = c.args in
    let l = c.loop-i in
    let whole : l.i ≡ length a.source.now = omega arith in
    rw (l.invariant.0, whole) (room a.buffer.now a.at a.source.now (omega arith))
