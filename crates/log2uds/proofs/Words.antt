-- Texts at the front of a buffer, and behind what stands there.
use Prim.Native.Nat.{ℕ, ◌+◌, ◌≤◌, ◌<◌, ◌^◌}
use native.Mathlib.Omega.{arith}
use mathlib.Core.List.{List, [], ◌++◌}
use mathlib.Core.Path.{◌≡◌, sym, ◌∙◌, ap}
use lib.ListN.{length, take, drop, length-append, length-take}
use lib.Seq.{take_at, length-take-le}
use Rattle.rules.specs.Lines.{ascii, decimal}
use Rattle.text.specs.Written.{put, Put, Appended, counted, item}
use Rattle.text.proofs.Numerals.{digits, item-length}
use Rattle.text.proofs.Writing.{then, was-put}

-- Every number of 64 bits has at most 20 digits.
long : (n : ℕ) → n < 2 ^ 64 → length (decimal n) ≤ 20
long n h = digits 19 19 n (omega arith)

front : (out after bs : List ℕ) (r : ℕ) → Put out 0 bs after r → take r after ≡ bs
unfolding put
front out after bs r p =
    let end : r ≡ length bs = p.next ∙ let z : 0 + length bs ≡ length bs = omega arith in z in
    rw p.line (take_at bs (drop (0 + length bs) out) r (sym end))

module _ (out : List ℕ) (room : 60 ≤ length out) where
  pub told : (word : List ℕ) (n r : ℕ) (after : List ℕ) → length word ≤ 38 → n < 2 ^ 64 → Appended (item word n []) out 0 r after → take r after ≡ item word n []
  told word n r after short small p =
      front out after (item word n []) r (was-put (item word n []) out 0 (omega (arith, item-length word [] n, long n small)) p)

  pub told_line : (n line r s : ℕ) (m after : List ℕ) → n < 2 ^ 64 → line < 2 ^ 64 → length m ≡ length out → Appended (counted (ascii "refused") n) out 0 r m →
      Appended (item [] line []) m r s after → take s after ≡ counted (ascii "refused") n ++ item [] line []
  told_line n line r s m after small small' same p q =
      let size : length (counted (ascii "refused") n) ≤ 28 = rw length-append (omega (arith, long n small)) in
      let first = was-put (counted (ascii "refused") n) out 0 (omega arith) p in
      let end = first.next in
      let second = was-put (item [] line []) m r (omega (arith, item-length [] [] line, long line small')) q in
      front out after (counted (ascii "refused") n ++ item [] line []) s (then (omega arith) first second)

-- Behind what stands there.
pub told-behind : (out word : List ℕ) (at n r : ℕ) (after : List ℕ) → at + 60 ≤ length out → length word ≤ 38 → n < 2 ^ 64 →
    Appended (item word n []) out at r after →
    take r after ≡ take at out ++ item word n []
unfolding put
told-behind out word at n r after room short small p =
    let bs = item word n [] in
    let q = was-put bs out at (omega (arith, item-length word [] n, long n small)) p in
    let size : length (take at out ++ bs) ≡ r =
    length-append (take at out) bs ∙ ap (λ (k : ℕ). k + length bs) (length-take-le at out (omega arith)) ∙ sym q.next in
    rw q.line (take_at (take at out ++ bs) (drop (at + length bs) out) r size)

-- A part of a buffer is no longer than the buffer.
pub part-short : (n : ℕ) (l : List ℕ) {p : List ℕ} → p ≡ take n (drop 0 l) → length p ≤ length l
part-short n l e = omega (arith, ap (length {A = ℕ}) e, length-take n l)
