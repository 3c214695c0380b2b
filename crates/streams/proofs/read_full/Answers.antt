-- What one read put behind the front is what it took from the reader, so front and piece together are.
use Rattle.std.proofs.Common.{◌≡◌, ◌+◌, ◌-◌, ◌≤◌, ℕ, List, ◌++◌, length, take, drop, arith, sym, ap, ◌∙◌, subst, length-take-le, le_refl, drop_at}
use Rattle.std.proofs.lemmas.Slice.{take-put_mid_below}
use Rattle.std.proofs.KnownBytes.{Consumes-trans}
use Rattle.std.specs.Io.KnownBytes.{Consumes}
use borrow.Rule.Slice.PartMut.{put_mid, post_of}
use lib.Seq.{take-add, take-append-le}
use Rattle.streams.proofs.read_full.Goals as goal

-- The front of a buffer, and the front of what was put behind it, are together its front.
piece : (a k n : ℕ) (xs ys : List ℕ) → a ≤ length xs → n ≤ length ys → take a xs ++ take n ys ≡ take (a + n) (put_mid a k xs ys)
piece a k n xs ys within fits =
    let behind = post_of a k xs in
    sym (
    take-add a n (put_mid a k xs ys) ∙
    ap (λ l. l ++ take n (drop a (put_mid a k xs ys))) (take-put_mid_below _ _ _ _ _ (le_refl _) within) ∙
    ap (λ l. take a xs ++ l) (ap (take n) (drop_at (take a xs) (ys ++ behind) a (length-take-le a xs within)) ∙ take-append-le n ys behind fits)
    )

pub loop-done-preserved : goal.loop-done-preserved
loop-done-preserved g c =
    let from = c.loop-done.done in
    let room = length c.loop-done.buf - from in
    let within = c.loop-done.invariant.0 in (
      omega (arith, c.in_ok-n.ensures.bound.0, c.loop-done.auto.buf),
      subst (Consumes _ _) (piece from room c.in_ok-n.n c.loop-done.buf c.read.new.buf within c.in_ok-n.ensures.bound.0)
          (Consumes-trans _ _ _ _ _ c.loop-done.invariant.1 c.in_ok-n.ensures.bytes.0),
    )
