-- Two copies, one behind the other, are one copy.
use Prim.Native.Nat.{ℕ, ◌+◌}
use native.Mathlib.Omega.{arith}
use mathlib.Core.Bool.{Bool, true, false}
use mathlib.Core.List.{List, ◌++◌, append_assoc}
use mathlib.Core.Path.{◌≡◌, sym, ◌∙◌}
use borrow.Author.Tests.{le-leb, leb-true}
use lib.ListN.{length, take, drop, length-append}
use lib.Seq.{length-take-le, take-append-le, take-take, drop_at}
use Rattle.wire.specs.Buffers.{Copied, with}

module _ (l : List ℕ) (at : ℕ) (a b : List ℕ) where
  ends : at + length (a ++ b) ≡ at + length a + length b
  ends = rw length-append (omega arith)

  pub neither : {m : List ℕ} → Copied l (at + length a) b false m → Copied l at (a ++ b) false m
  unfolding with
  neither p = record { told = rw ends p.told; buffer = p.buffer ∙ rw (ends, ← p.told) }

  pub both : {m o : List ℕ} {r : Bool} → Copied l (at + length a) b true m → Copied m at a r o → Copied l at (a ++ b) r o
  unfolding with
  both {m} p q =
      let room = leb-true (at + length a + length b) (length l) (sym p.told) in
      let front = take (at + length a) l in
      let long : length front ≡ at + length a = length-take-le (at + length a) l (omega arith) in
      let rest = b ++ drop (at + length a + length b) l in
      let put : m ≡ front ++ rest = p.buffer ∙ rw (← p.told, append_assoc) in
      let room-too = le-leb (at + length a) (length m) (rw (put, length-append, long) (omega arith)) in
      let cut : take at (front ++ rest) ≡ take at l = take-append-le at front rest (omega arith) ∙ take-take at (at + length a) l (omega arith) in
      record {
        told = q.told ∙ room-too ∙ rw ends p.told;
        buffer = q.buffer ∙ rw (room-too, ends, ← p.told, put, cut, drop_at front rest (at + length a) long) (simp append_assoc);
      }
