-- `imports::read_on` meets its contract.
use native.Mathlib.Omega.{arith}
use mathlib.Core.Path.{◌≡◌, sym, ◌∙◌, ap}
use Prim.Native.Nat.{ℕ, ◌+◌}
use lib.ListN.{length, get_or, take}
use lib.Seq.{take_all}
use Rattle.importing.specs.Kept.{Stream, stream, byte, bytes}
use Rattle.candump.specs.Reading.{begun}
use Rattle.imports.specs.Held.{going_of, stream_of}
use Rattle.imports.proofs.Stepping.{one_more, none_read, at-lf, at_other}
use Rattle.imports.proofs.read_on.Goals as goal
use Rattle.imports.proofs.read_on.Goals.{then-c-eq10, else-c-eq10}

pub loop-c-init : goal.loop-c-init
loop-c-init c = let x = c.args in none_read (length x.out.now) x.ids.ask x.ids.answer _

pub loop-c-preserved : goal.loop-c-preserved
loop-c-preserved c =
    let x = c.args in
    let l = c.loop-c in
    let b = get_or x.chunk.now l.c-index 0 in
    let held = stream l.reader (going_of l.import l.lent l.out) in
    let on : byte (length l.out) x.ids.ask x.ids.answer held b ≡
    bytes (length x.out.now) x.ids.ask x.ids.answer (stream_of x.s x.lent.now x.out.now) (take (l.c-index + 1) x.chunk.now) =
    ap (λ (n : ℕ). byte n x.ids.ask x.ids.answer held b) l.auto.out
    ∙ ap (λ (s : Stream). byte (length x.out.now) x.ids.ask x.ids.answer s b) l.invariant
    ∙ one_more (length x.out.now) x.ids.ask x.ids.answer l.c-index (stream_of x.s x.lent.now x.out.now) x.chunk.now c.loop-c-test.true in
    elim c.if-c-eq10.branch [
      | then-c-eq10 w ↦
          rw (w.lent-is, w.out-is, w.reader-is, w.import-is, w.begin-reader.ensures)
          (ap (stream begun) (rw w.ended-found.ensures at w.line_ends-import.ensures) ∙
          at-lf (length l.out) x.ids.ask x.ids.answer b held w.if-c-eq10.true ∙ on)
      | else-c-eq10 w ↦
          rw (w.lent-is, w.out-is, w.reader-is, w.import-is, w.next-reader.ensures)
          (at_other (length l.out) x.ids.ask x.ids.answer b held w.if-c-eq10.false ∙ on)
    ]

pub returns : goal.returns
returns c =
    let x = c.args in
    c.loop-c.invariant
    ∙ ap (bytes (length x.out.now) x.ids.ask x.ids.answer (stream_of x.s x.lent.now x.out.now)) (take_all c.loop-c.c-index x.chunk.now c.loop-c-test.false)
