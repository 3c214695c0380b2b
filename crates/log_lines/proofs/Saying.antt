-- What is said of a log, in a buffer from an index on.
use Prim.Native.Nat.{ℕ, ◌+◌, ◌≤◌, ◌<◌, ◌^◌}
use native.Mathlib.Omega.{arith}
use mathlib.Core.List.{List, [], ◌∷◌, ◌++◌, append_assoc, append-nil}
use mathlib.Core.Path.{◌≡◌, sym, ap, subst, ◌∙◌}
use lib.ListN.{length, length-append}
use Rattle.rules.specs.Lines.{ascii, decimal, spaced}
use Rattle.text.specs.Written.{Put, Appended, counted, item}
use Rattle.text.proofs.Numerals.{digits, item-length}
use Rattle.text.proofs.Writing.{then, was-put}
use Rattle.log_files.specs.Said.{cut_line, length_line}

-- Every number of 64 bits has at most 20 digits.
long : (n : ℕ) → n < 2 ^ 64 → length (decimal n) ≤ 20
long n h = digits 19 19 n (omega arith)

-- A line of a word and a number.
item-plain : (word : List ℕ) (n : ℕ) → item word n [] ≡ counted word n ++ (10 ∷ [])
unfolding item
item-plain word n = ap (λ (l : List ℕ). l ++ (10 ∷ [])) (append-nil (counted word n))

pub cut-put : (said after : List ℕ) (n r : ℕ) → 60 ≤ length said → n < 2 ^ 64 → Appended (item (ascii "cut") n []) said 0 r after →
    Put said 0 (cut_line n) after r
cut-put said after n r room small p =
    subst (λ (l : List ℕ). Put said 0 l after r) (item-plain (ascii "cut") n)
    (was-put (item (ascii "cut") n []) said 0 (omega (arith, item-length (ascii "cut") [] n, long n small)) p)

module _ (said m after : List ℕ) (at n l r s : ℕ) (room : at + 60 ≤ length said) (small : n < 2 ^ 64) (small' : l < 2 ^ 64)
    (same : length m ≡ length said)
    (p : Appended (counted (ascii "length") n) said at r m) (q : Appended (item [] l []) m r s after) where
  size : length (counted (ascii "length") n) ≤ 27
  size = rw length-append (omega (arith, long n small))

  first : Put said at (counted (ascii "length") n) m r
  first = was-put (counted (ascii "length") n) said at (omega (arith, size)) p

  second : Put m r (item [] l []) after s
  second = was-put (item [] l []) m r (omega (arith, first.next, size, item-length [] [] l, long l small')) q

  pub length-put : Put said at (length_line n l) after s
  length-put =
      subst (λ (t : List ℕ). Put said at t after s)
      (ap (λ (t : List ℕ). counted (ascii "length") n ++ t) (item-plain [] l) ∙
      sym (append_assoc (counted (ascii "length") n) (spaced (decimal l)) (10 ∷ [])))
      (then (omega (arith, first.next, size)) first second)

  pub length-ends : s ≤ length said
  length-ends = omega (arith, first.next, second.next, size, item-length [] [] l, long l small')
