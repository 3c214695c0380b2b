-- Laws of the report's text in a lent buffer: a line, a field, and all of them.
use Prim.Native.Nat.{ℕ, ◌+◌, ◌≤◌, ◌<◌}
use native.Mathlib.Omega.{arith}
use mathlib.Core.Bool.{Bool}
use mathlib.Core.List.{List, [], ◌∷◌, ◌++◌}
use mathlib.Core.Path.{◌≡◌, refl, ◌∙◌, ap}
use borrow.Author.Tests.{le-leb, eq-eqb}
use lib.ListN.{length, length-append, length-drop}
use lib.Seq.{length-take-le}
use Rattle.rules.specs.Lines.{decimal}
use Rattle.wire.specs.Buffers.{Copied, with}
use Rattle.text.specs.Written.{Put, Appended, put, counted}
use Rattle.text.proofs.Numerals.{digits}
use Rattle.text.proofs.Writing.{then, none, was-put}
use Rattle.udsmend.specs.Streams.{field_text}

-- Five digits at most.
pub few-digits : (n : ℕ) → n < 65536 → length (decimal n) ≤ 5
few-digits n h = digits 19 4 n (omega arith)

counted-long : (word : List ℕ) (n : ℕ) → n < 65536 → length (counted word n) ≤ length word + 6
counted-long word n h = simp length-append (omega (arith, few-digits n h))

put-long : (l m bs : List ℕ) (at n : ℕ) → n ≤ length l → Put l at bs m n → length m ≡ length l
unfolding put
put-long l m bs at n h p =
    let end = p.next in
    ap (λ (x : List ℕ). length x) p.line ∙ rw (length-append, length-append, length-drop, length-take-le at l (omega arith)) (omega arith)

-- A newline behind what was put.
pub newline : (l m o bs : List ℕ) (at n : ℕ) {t : Bool} → n + 1 ≤ length l → Put l at bs m n → Copied m n (10 ∷ []) t o → Put l at (bs ++ (10 ∷ [])) o (n + 1)
unfolding with put
newline l m o bs at n h p q =
    let long = put-long l m bs at n (omega arith) p in
    let fits = le-leb (n + 1) (length m) (omega arith) in
    let one : Put m n (10 ∷ []) o (n + 1) = record { next = refl; line = q.buffer ∙ rw fits } in
    then (omega arith) p one

-- A word and a number.
module _ (l m word : List ℕ) (at number n : ℕ) (small : number < 65536) (room : at + length word + 7 ≤ length l) (p : Appended (counted word number) l at n m) where
  pub one-put : Put l at (counted word number) m n
  one-put = was-put (counted word number) l at (omega (arith, counted-long word number small)) p

  pub one-ends : n + 1 ≤ at + length word + 7
  one-ends = omega (arith, one-put.next, counted-long word number small)

-- Two of each, and the newline.
module _ (l m o word between : List ℕ) (at first second a b : ℕ) (small : first < 65536) (small' : second < 65536)
    (room : at + length word + length between + 13 ≤ length l) (p : Appended (counted word first) l at a m) (q : Appended (counted between second) m a b o) where
  two-put : Put l at (counted word first ++ counted between second) o b
  two-put =
      let one = one-put l m word at first a small (omega arith) p in
      let ends = one-ends l m word at first a small (omega arith) p in
      let long = put-long l m (counted word first) at a (omega arith) one in
      then (omega arith) one (one-put m o between a second b small' (omega arith) q)

  pub two-end : b + 1 ≤ at + length word + length between + 13
  two-end =
      let long = length-append (counted word first) (counted between second) in
      omega (arith, two-put.next, counted-long word first small, counted-long between second small')

  pub line-put : {t : Bool} {k : List ℕ} → Copied o b (10 ∷ []) t k → Put l at (counted word first ++ counted between second ++ (10 ∷ [])) k (b + 1)
  line-put {k = k} r = let end = two-end in newline l o k (counted word first ++ counted between second) at b (omega arith) two-put r

-- A field that was not rewritten says nothing.
pub same-field : (l name : List ℕ) (at old new : ℕ) → old ≡ new → Put l at (field_text name old new) l at
same-field l name at old new e = rw (eq-eqb old new e) (none l at)
