-- `put_offsets` meets its contract: with what is still to be written, the directory is the one that was asked for.
use native.Mathlib.Omega.{arith}
use Rattle.book.proofs.Bytes.{four_bytes}
use Rattle.book.proofs.Inserting.{to_come, one-offset}
use Rattle.bookkeeping.specs.Layout.{start}
use Rattle.wire.specs.Buffers.{with}
use Rattle.rules.specs.Bytes.{four}
use mathlib.Core.Path.{◌≡◌, ◌∙◌, ap₂}
use mathlib.Core.List.{List}
use Prim.Native.Nat.{ℕ, ◌+◌}
use Rattle.book.proofs.writer.put_offsets.Goals as goal

pub loop-i-preserved : goal.loop-i-preserved
loop-i-preserved c =
    let l = c.loop-i in
    let offset : c.copy_into.new.buffer ≡ with l.book (start l.i + 4) (four l.at) =
    rw (c.to_be_bytes.ensures ∙ four_bytes l.at (omega arith), c.start.ensures) at c.copy_into.ensures.buffer
    in (
      omega arith,
      ap₂ (λ (m : List ℕ) (s : ℕ). to_come m c.args.count (l.i + 1) (l.at + s)) offset c.log_size-size.ensures.0 ∙
          one-offset l.book c.args.count l.i l.at (omega arith) (omega arith) ∙
          l.invariant.1,
    )
