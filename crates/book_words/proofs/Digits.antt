-- Laws of decimal words, read byte by byte.
use Rattle.std.specs.Prelude.{Some, None}
use Prim.Native.Nat.{ℕ, ◌+◌, ◌-◌, ◌*◌, ◌≤◌, ◌<◌}
use native.Mathlib.Numerals.{add-one}
use native.Mathlib.Omega.{arith}
use mathlib.Core.Bool.{Bool, true, false}
use mathlib.Core.List.{List, [], ◌∷◌}
use mathlib.Core.Path.{◌≡◌, refl, sym, ◌∙◌, ap}
use borrow.Author.Tests.{le-leb, lt-leb}
use lib.ListN.{length, get_or, drop, drop_of_length-le}
use lib.Seq.{drop-cons}
use Rattle.rules.specs.Bytes.{every}
use Rattle.book_words.specs.Words.{is_digit, value_from, number_in}

-- More digits say no smaller number.
pub at_least : (v : ℕ) (l : List ℕ) → v ≤ value_from v l
at_least v [] = omega arith
at_least v (b ∷ bs) = omega (arith, at_least (v * 10 + (b - 48)) bs)

-- The byte at i.
module _ (w : List ℕ) (i : ℕ) (h : i < length w) where
  pub value-step : (v : ℕ) → value_from v (drop i w) ≡ value_from (v * 10 + (get_or w i 0 - 48)) (drop (i + 1) w)
  value-step v = rw (drop-cons w i 0 h, add-one i)

  pub not-digit : is_digit (get_or w i 0) ≡ false → every is_digit (drop i w) ≡ false
  not-digit e = rw (drop-cons w i 0 h, e)

pub no_word : (w : List ℕ) → length w ≡ 0 → None ≡ number_in w
unfolding number_in
no_word w none = rw (lt-leb 1 (length w) (omega arith))

module _ (w : List ℕ) (some : 1 ≤ length w) where
  pub no-digits : every is_digit w ≡ false → None ≡ number_in w
  unfolding number_in
  no-digits e = rw (le-leb 1 (length w) some, e)

  above : 18446744073709551615 < value_from 0 w → None ≡ number_in w
  unfolding number_in
  above big = go (every is_digit w) refl
    where
      go : (t : Bool) → every is_digit w ≡ t → None ≡ number_in w
      go true e = rw (le-leb 1 (length w) some, e, lt-leb (value_from 0 w) 18446744073709551615 big)
      go false e = no-digits e

  -- With the digit at i the number is too large.
  pub too_much : (v i : ℕ) → i < length w → value_from v (drop i w) ≡ value_from 0 w → 18446744073709551615 < v * 10 + (get_or w i 0 - 48)
      → None ≡ number_in w
  too_much v i h value big =
      let next = v * 10 + (get_or w i 0 - 48) in
      above (omega (arith, at_least next (drop (i + 1) w), value-step w i h v, value, big))

  is_number : every is_digit w ≡ true → value_from 0 w ≤ 18446744073709551615 → Some (value_from 0 w) ≡ number_in w
  unfolding number_in
  is_number e small = rw (le-leb 1 (length w) some, e, le-leb (value_from 0 w) 18446744073709551615 small)

  pub ends : (v i : ℕ) → length w ≤ i → v ≤ 18446744073709551615 → value_from v (drop i w) ≡ value_from 0 w → every is_digit (drop i w) ≡ every is_digit w
      → Some v ≡ number_in w
  ends v i past small value digits =
      let none : drop i w ≡ [] = drop_of_length-le w past in
      let same : v ≡ value_from 0 w = rw none at value in
      let all : every is_digit w ≡ true = sym (rw none at digits) in
      ap Some same ∙ is_number all (omega (arith, small, same))
