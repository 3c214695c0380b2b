-- Laws of the program's text in a lent buffer: the line of a counter, the lines of a summary, and how long they are.
use Prim.Native.Nat.{ℕ, zero, suc, ◌+◌, ◌*◌, ◌/◌, ◌%◌, ◌≤◌, ◌<◌, ◌^◌}
use native.Mathlib.Nat.{add-zero}
use native.Mathlib.Numerals.{add-one}
use native.Mathlib.Omega.{arith}
use mathlib.Core.Bool.{Bool, true, false, cond}
use mathlib.Core.List.{List, [], ◌∷◌, ◌++◌, append_assoc, append-nil}
use mathlib.Core.Path.{◌≡◌, refl, sym, ◌∙◌, ap}
use borrow.Author.Tests.{eq-eqb, ne_eqb}
use lib.Dec.{leb}
use lib.ListN.{length, get_or, take, length-append}
use lib.Seq.{take-suc, length-take-le}
use Rattle.rules.specs.Lines.{decimal, spaced}
use Rattle.std.specs.Bool.{then_some}
use Rattle.wire.specs.Buffers.{with, Copied}
use Rattle.text.specs.Written.{put}
use Rattle.text.proofs.Numerals.{digits}
use Rattle.bookkeeping.specs.Summary.{Class, positive, negative, suppressed, timed_out, deviating, other, class_at}
use Rattle.bookkeeping.specs.Said.{word, counter_line, lines_from}
use Rattle.book_text.specs.Texts.{usage, Puts}

pub five-digits : (n : ℕ) → n < 65536 → length (decimal n) ≤ 5
five-digits n h = digits 19 4 n (omega arith)

pub twenty-digits : (n : ℕ) → n < 2 ^ 64 → length (decimal n) ≤ 20
twenty-digits n h = digits 19 19 n (omega arith)

-- The line of a counter that is not 0.
pub one-line : (place number : ℕ) → (number ≡ 0 → ⊥) →
    counter_line place number ≡ decimal (place / 261) ++ spaced (word (class_at (place % 261))) ++ spaced (decimal number) ++ (10 ∷ [])
one-line place number some = rw (ne_eqb number 0 some)

pub no-line : (place number : ℕ) → number ≡ 0 → counter_line place number ≡ []
no-line place number none = rw (eq-eqb number 0 none)

-- How long it is.
word-long : (c : Class) → length (word c) ≤ 11
word-long positive = omega arith
word-long (negative code) = omega arith
word-long suppressed = omega arith
word-long timed_out = omega arith
word-long deviating = omega arith
word-long other = omega arith

pub line-long : (place number : ℕ) → (0 < number → place < 4176) → number < 65536 → length (counter_line place number) ≤ 24
line-long place zero h few = omega (arith, ap (λ (l : List ℕ). length l) (no-line place 0 refl))
line-long place (suc n) h few =
    let call = decimal (place / 261) in
    let class = word (class_at (place % 261)) in
    let number = decimal (suc n) in
    let small : length call ≤ 2 = digits 19 1 (place / 261) (omega (arith, h (omega arith))) in
    let sum : length (call ++ spaced class ++ spaced number ++ (10 ∷ [])) ≤ 24 =
    omega (
      arith,
      length-append (call ++ spaced class ++ spaced number) (10 ∷ []),
      length-append (call ++ spaced class) (spaced number),
      length-append call (spaced class),
      small,
      word-long (class_at (place % 261)),
      five-digits (suc n) few,
    )
    in
    omega (arith, sum, ap (λ (l : List ℕ). length l) (one-line place (suc n) (λ e. omega arith)))

pub lines-long : (place : ℕ) (ns : List ℕ) → place + length ns ≤ 4176 → ((k : ℕ) → get_or ns k 0 < 65536) → length (lines_from place ns) ≤ length ns * 24
unfolding lines_from
lines-long place [] h few = omega arith
lines-long place (n ∷ ns) h few =
    let rest = lines-long (suc place) ns (omega arith) (λ k. few (suc k)) in
    omega (arith, length-append (counter_line place n) (lines_from (suc place) ns), line-long place n (λ some. omega arith) (few 0), rest)

-- One counter more.
lines_snoc : (i : ℕ) (ns : List ℕ) (n : ℕ) → lines_from i (ns ++ (n ∷ [])) ≡ lines_from i ns ++ counter_line (i + length ns) n
unfolding lines_from
lines_snoc i [] n = rw (add-zero i) (append-nil (counter_line i n))
lines_snoc i (x ∷ ns) n =
    let on : suc i + length ns ≡ i + suc (length ns) = omega arith in
    ap (λ (t : List ℕ). counter_line i x ++ t) (lines_snoc (suc i) ns n)
    ∙ rw on (sym (append_assoc (counter_line i x) (lines_from (suc i) ns) (counter_line (i + suc (length ns)) n)))

pub line-more : (s : List ℕ) (i : ℕ) → i < length s → lines_from 0 (take i s) ++ counter_line i (get_or s i 0) ≡ lines_from 0 (take (i + 1) s)
line-more s i h =
    let at : 0 + length (take i s) ≡ i = omega (arith, length-take-le i s (omega arith)) in
    rw (add-one i, take-suc s i 0 h, lines_snoc 0 (take i s) (get_or s i 0), at)

pub no_lines : [] ≡ lines_from 0 []
unfolding lines_from
no_lines = refl

-- A counter that is not 0 is one of the summary's.
pub inside : (s : List ℕ) (i : ℕ) → 0 < get_or s i 0 → i < length s
inside [] i h = absurd (omega arith)
inside (x ∷ s) zero h = omega arith
inside (x ∷ s) (suc i) h = omega (arith, inside s i h)

-- The line of wrong usage.
pub usage-put : (before after : List ℕ) (done : Bool) → Copied before 0 usage done after → Puts (leb 64 (length before)) before usage after (then_some done 64)
unfolding usage put with
usage-put before after done c = go (leb 64 (length before)) refl
  where
    go : (room : Bool) → leb 64 (length before) ≡ room → Puts room before usage after (then_some done 64)
    go true e =
        let told : done ≡ true = c.told ∙ e in
        rw told (record { next = refl; line = c.buffer ∙ ap (λ (b : Bool). cond b (put before 0 usage) before) e })
    go false e =
        let told : done ≡ false = c.told ∙ e in
        rw told (c.buffer ∙ ap (λ (b : Bool). cond b (put before 0 usage) before) e, refl)
