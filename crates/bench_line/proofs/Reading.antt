-- A line read byte by byte: its digits, its space, its number.
use Rattle.std.specs.Prelude.{Some, None}
use Prim.Native.Nat.{ℕ, zero, suc, ◌+◌, ◌-◌, ◌*◌, ◌≤◌, ◌<◌}
use native.Mathlib.Omega.{arith}
use native.Mathlib.Numerals.{add-one}
use mathlib.Core.Bool.{Bool, true, false, cond, ◌&&◌}
use mathlib.Core.Path.{◌≡◌, refl, sym, ◌∙◌, ap}
use mathlib.Core.List.{List, [], ◌∷◌, ◌++◌}
use borrow.Author.Tests.{le-leb, lt-leb, ltb-false}
use lib.Dec.{eqb, leb, ltb}
use lib.ListN.{length, get_or, take, drop, set, drop_of_length-le}
use lib.Seq.{drop-cons, take-suc-set}
use Rattle.std.specs.List.{position_or_len}
use Rattle.std.specs.Option.{unwrap_or}
use Rattle.std.proofs.lemmas.List.Sums.{prefix_len-le-length}
use Rattle.std.proofs.lemmas.List.Recursion.{is_position_or_len}
use Rattle.rules.specs.Bytes.{every}
use Rattle.bench.specs.Talk.{is_digit, is_hex_digit, nibble, unhex, number_from, space_at}
use Rattle.bench_line.specs.Answered.{nibble_of, room_of}

-- The next of the bytes from i on.
pub turn : (l : List ℕ) (i : ℕ) → i < length l → drop i l ≡ get_or l i 0 ∷ drop (i + 1) l
turn l i h = rw (drop-cons l i 0 h, add-one)

-- A character that stands for a is a hex digit.
pub stands : (c : ℕ) {a : ℕ} → Some a ≡ nibble_of c → (is_hex_digit c ≡ true) × (a ≡ nibble c)
stands c {a} e = go (is_hex_digit c) e
  where
    go : (t : Bool) → Some a ≡ cond t (Some (nibble c)) None → (t ≡ true) × (a ≡ nibble c)
    go true e = (refl, cc)
    go false e = cc

-- One pair of digits more.
pub unhex-next : (l : List ℕ) (i : ℕ) → i * 2 + 1 < length l → unhex (take ((i + 1) * 2) l) ≡ unhex (take (i * 2) l) ++ ((nibble (get_or l (i * 2) 0) * 16 + nibble (get_or l (i * 2 + 1) 0)) ∷ [])
unhex-next [] i h = absurd (omega arith)
unhex-next (a ∷ []) i h = absurd (omega arith)
unhex-next (a ∷ b ∷ l) zero h = refl
unhex-next (a ∷ b ∷ l) (suc i) h =
    let x : suc i * 2 ≡ suc (suc (i * 2)) = omega arith in
    let y : (suc i + 1) * 2 ≡ suc (suc ((i + 1) * 2)) = omega arith in
    let z : suc i * 2 + 1 ≡ suc (suc (i * 2 + 1)) = omega arith in
    rw (y, z, x) (ap (λ (k : List ℕ). (nibble a * 16 + nibble b) ∷ k) (unhex-next l i (omega arith)))

module _ (l : List ℕ) (i : ℕ) {a b : ℕ} (h : i * 2 + 1 < length l) (first : Some a ≡ nibble_of (get_or l (i * 2) 0)) (second : Some b ≡ nibble_of (get_or l (i * 2 + 1) 0)) where
  pub digits-more : every is_hex_digit (drop ((i + 1) * 2) l) ≡ every is_hex_digit (drop (i * 2) l)
  digits-more =
      let at : i * 2 + 1 + 1 ≡ (i + 1) * 2 = omega arith in
      rw (turn l (i * 2) (omega arith), turn l (i * 2 + 1) h, (stands _ first).0, (stands _ second).0, at)

  pub pair-more : (r : List ℕ) → i < length r → take i r ≡ unhex (take (i * 2) l) → take (i + 1) (set r i (a * 16 + b)) ≡ unhex (take ((i + 1) * 2) l)
  pair-more r k e = rw (unhex-next l i h, ← (stands _ first).1, ← (stands _ second).1, ← e, add-one) (take-suc-set r i (a * 16 + b) k)

-- The first space.
module _ (l : List ℕ) where
  abbrev first : ℕ
  first = position_or_len (λ (c : ℕ). eqb c 32) l

  is_first : space_at l ≡ first
  is_first = is_position_or_len space_at (λ (c : ℕ). eqb c 32) refl (λ c cs. ap (λ (n : ℕ). cond (eqb c 32) 0 n) (omega arith)) l

  pub space-inside : space_at l ≤ length l
  space-inside = let most : first ≤ length l = prefix_len-le-length _ l in rw is_first most

  pub first_space : unwrap_or (cond (ltb first (length l)) (Some first) None) (length l) ≡ space_at l
  first_space = rw is_first (go (ltb first (length l)) refl (prefix_len-le-length _ l))
    where
      go : (t : Bool) → ltb first (length l) ≡ t → first ≤ length l → unwrap_or (cond t (Some first) None) (length l) ≡ first
      go true e h = refl
      go false e h = omega (arith, ltb-false first (length l) e)

-- A number, digit by digit.
grows : (v : ℕ) (cs : List ℕ) → v ≤ number_from v cs
grows v [] = omega arith
grows v (c ∷ cs) = omega (arith, grows (v * 10 + (c - 48)) cs)

pub digit-more : (l : List ℕ) (i v : ℕ) → number_from v (drop i l) ≡ number_from 0 l → i < length l → number_from (v * 10 + (get_or l i 0 - 48)) (drop (i + 1) l) ≡ number_from 0 l
digit-more l i v same h = rw (turn l i h) at same

pub all-more : (l : List ℕ) (i : ℕ) → i < length l → is_digit (get_or l i 0) ≡ true → every is_digit (drop i l) ≡ every is_digit l → every is_digit (drop (i + 1) l) ≡ every is_digit l
all-more l i h is e = rw (turn l i h, is) at e

module _ (l : List ℕ) where
  pub too_few : length l < 1 → None ≡ room_of l
  unfolding room_of
  too_few h = rw (lt-leb 1 (length l) h)

  pub too_many : 4 < length l → None ≡ room_of l
  unfolding room_of
  too_many h = rw (le-leb 1 (length l) (omega arith), lt-leb (length l) 4 h)

  module _ (least : 1 ≤ length l) (most : length l ≤ 4) where
    -- The byte at index i is no digit.
    pub no_number : (i : ℕ) → i < length l → is_digit (get_or l i 0) ≡ false → every is_digit (drop i l) ≡ every is_digit l → None ≡ room_of l
    unfolding room_of
    no_number i h other e =
        let none : every is_digit l ≡ false = sym e ∙ rw (turn l i h, other) in
        rw (le-leb 1 (length l) least, le-leb (length l) 4 most, none)

    too_large : 4095 < number_from 0 l → None ≡ room_of l
    unfolding room_of
    too_large h = rw (le-leb 1 (length l) least, le-leb (length l) 4 most) (go (every is_digit l))
      where
        go : (b : Bool) → None ≡ cond (b && (leb (number_from 0 l) 4095 && true)) (Some (number_from 0 l)) None
        go true = rw (lt-leb (number_from 0 l) 4095 h)
        go false = refl

    a-number : {v : ℕ} → every is_digit l ≡ true → v ≡ number_from 0 l → v ≤ 4095 → Some v ≡ room_of l
    unfolding room_of
    a-number h e k = rw (le-leb 1 (length l) least, le-leb (length l) 4 most, h, le-leb (number_from 0 l) 4095 (omega (arith, e))) (ap Some e)

    module _ (i v : ℕ) (same : number_from v (drop i l) ≡ number_from 0 l) where
      pub already_large : i < length l → 4095 < v * 10 + (get_or l i 0 - 48) → None ≡ room_of l
      already_large h k = too_large (omega (arith, digit-more l i v same h, grows (v * 10 + (get_or l i 0 - 48)) (drop (i + 1) l)))

      pub digits-done : length l ≤ i → every is_digit (drop i l) ≡ every is_digit l → v ≤ 4095 → Some v ≡ room_of l
      digits-done h all few = a-number (sym all ∙ rw (drop_of_length-le l h)) (rw (drop_of_length-le l h) at same) few
