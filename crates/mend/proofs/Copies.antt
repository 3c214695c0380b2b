-- Pieces written into a lent buffer, one behind the other.
use Prim.Native.Nat.{ℕ, ◌+◌, ◌≤◌}
use native.Mathlib.Omega.{arith}
use mathlib.Core.Bool.{Bool}
use mathlib.Core.List.{List, ◌++◌, append_assoc}
use mathlib.Core.Path.{◌≡◌, refl, sym, ◌∙◌, ap}
use lib.ListN.{length, take, drop, length-append, length-drop}
use lib.Seq.{take_at, drop_at, drop-drop}
use borrow.Author.Tests.{le-leb}
use borrow.Rule.Slice.PartMut.{put_mid}
use Rattle.wire.specs.Buffers.{Copied, with}

-- The bytes stand at the front, and the rest is as it was.
abbrev pub over : List ℕ → List ℕ → List ℕ
over bs out = bs ++ drop (length bs) out

pub over_with : (bs out : List ℕ) → length bs ≤ length out → with out 0 bs ≡ over bs out
unfolding with
over_with bs out room = let zero : 0 + length bs ≡ length bs = omega arith in rw (zero, le-leb (length bs) (length out) room)

-- One piece more.
pub put_more : (bs piece out m : List ℕ) (at n : ℕ) → m ≡ over bs out → at ≡ length bs → n ≡ length piece → put_mid at n m piece ≡ over (bs ++ piece) out
put_more bs piece out m at n put ea en =
    let long : length (bs ++ piece) ≡ at + n = omega (arith, length-append bs piece) in
    rw (put, long, take_at bs (drop (length bs) out) at (omega arith), drop_at bs (drop (length bs) out) at (omega arith), ← ea, drop-drop n at out)
    (simp append_assoc)

-- The same, where the piece was copied.
pub copied_more : (bs piece out : List ℕ) {m o : List ℕ} {at : ℕ} {done : Bool} → m ≡ over bs out → at ≡ length bs → at + length piece ≤ length out → Copied m at piece done o
    → o ≡ over (bs ++ piece) out
unfolding with
copied_more bs piece out {m = m} {at = at} put ea room p =
    let long : length m ≡ length out = rw (put, length-append, length-drop) (omega arith) in
    let fits = le-leb (at + length piece) (length m) (omega arith) in
    let same : take at m ++ piece ++ drop (at + length piece) m ≡ put_mid at (length piece) m piece = rw (← drop-drop (length piece) at m) (simp append_assoc) in
    p.buffer ∙ rw fits (same ∙ put_more bs piece out m at (length piece) put ea refl)

-- Four pieces, the first of them copied to the front.
pub four : (h a k r out : List ℕ) {m : List ℕ} {done : Bool} {p q s i j n : ℕ} → length h + length a + length k + length r ≤ length out → Copied out 0 h done m
    → p ≡ length h → q ≡ p + length a → s ≡ q + length k → i ≡ length a → j ≡ length k → n ≡ length r
    → put_mid s n (put_mid q j (put_mid p i m a) k) r ≡ with out 0 (h ++ (a ++ (k ++ r)))
four h a k r out {m = m} {p = p} {q = q} {s = s} {i = i} {j = j} {n = n} room copied ep eq es ei ej en =
    let front₁ = length-append h a in
    let front₂ = length-append (h ++ a) k in
    let front₃ = length-append (h ++ a ++ k) r in
    let one = copied.buffer ∙ over_with h out (omega arith) in
    let two = put_more h a out m p i one ep ei in
    let three = put_more (h ++ a) k out (put_mid p i m a) q j two (omega arith) ej in
    let whole = put_more (h ++ a ++ k) r out (put_mid q j (put_mid p i m a) k) s n three (omega arith) en in
    let same : h ++ a ++ k ++ r ≡ h ++ (a ++ (k ++ r)) = simp append_assoc in
    whole ∙ sym (over_with (h ++ a ++ k ++ r) out (omega arith)) ∙ ap (with out 0) same
