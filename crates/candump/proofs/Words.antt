-- A word read digit by digit, and its rows.
use Rattle.std.specs.Prelude.{Some, None}
use Prim.Native.Nat.{ℕ, ◌+◌, ◌*◌, ◌%◌, ◌≤◌, ◌<◌}
use native.Mathlib.Numerals.{add-one}
use native.Mathlib.Omega.{arith}
use mathlib.Core.Bool.{Bool, true, false, ◌&&◌, and-false}
use mathlib.Core.List.{List, [], ◌∷◌, ◌++◌}
use mathlib.Core.Path.{◌≡◌, refl, sym, ◌∙◌, ap}
use lib.ListN.{length, get_or, take}
use lib.Seq.{take-suc, take_all}
use borrow.Author.Tests.{ne_eqb}
use Rattle.std.specs.List.{list_all}
use Rattle.rules.specs.Bytes.{every}
use Rattle.candump.specs.Text.{Hex, is, worth, number}
use Rattle.candump.specs.Reading.{more, can_id}
use Rattle.candump.specs.Words.{names, identifier_in, rows, Rows}
use Rattle.candump.proofs.Reading.{power, power-ten, same_more, more-sixteen}

pub every_all : {A : Type 0} (p : A → Bool) → (l : List A) → every p l ≡ list_all p l
every_all p [] = refl
every_all p (x ∷ l) = ap (λ (b : Bool). p x && b) (every_all p l)

number_behind : (v c : ℕ) (t : List ℕ) → number 16 v (t ++ (c ∷ [])) ≡ number 16 v t * 16 + worth c
number_behind v c [] = refl
number_behind v c (x ∷ t) = number_behind (v * 16 + worth x) c t

-- How far a word of at most eight bytes was read.
pub record Digits (word : List ℕ) (i v : ℕ) : Type 0 where
  pub value : v ≡ number 16 0 (take i word)
  pub small : v < power i

pub none_read : (word : List ℕ) → Digits word 0 0
unfolding power
none_read word = record { value = refl; small = omega arith }

pub one-read : {word : List ℕ} {i v w : ℕ} → length word ≤ 8 → i < length word → Digits word i v → w ≡ more 16 v (get_or word i 0) → Digits word (i + 1) w
one-read {word = word} {i = i} {v = v} few here p ew =
    let c = get_or word i 0 in
    let grown : take (i + 1) word ≡ take i word ++ (c ∷ []) = rw (add-one i, take-suc word i 0 here) in
    let same : i % 16 + 1 ≡ i + 1 = omega arith in
    record {
      value = ew ∙ same_more i v c p.small (omega arith) 16 ∙ rw (p.value, grown) (sym (number_behind 0 c (take i word)));
      small = rw (ew, ← same) (more-sixteen i v c p.small (omega arith) (omega arith));
    }

-- A word that is too long, or has another byte than a hex digit, names none.
pub none_named : (word : List ℕ) → (every (is Hex) word && names (length word) (number 16 0 word)) ≡ false → None ≡ identifier_in word
unfolding identifier_in
none_named word e = rw e

pub too_long : (word : List ℕ) → 8 < length word → None ≡ identifier_in word
too_long word h =
    none_named word (rw (ne_eqb (length word) 3 (omega arith), ne_eqb (length word) 8 (omega arith), and-false (every (is Hex) word)))

-- What was read of the whole word.
module _ {word : List ℕ} {i v : ℕ} (p : Digits word i v) (done : i ≡ length word) (all : every (is Hex) word ≡ true) where
  whole : number 16 0 word ≡ v
  whole = sym (p.value ∙ ap (number 16 0) (take_all i word (omega arith)))

  pub not_named : names (length word) v ≡ false → None ≡ identifier_in word
  not_named e = none_named word (rw (all, whole) e)

  pub one-named : {id : ℕ} → length word ≤ 8 → names (length word) v ≡ true → id ≡ can_id (length word) v → Some id ≡ identifier_in word
  unfolding identifier_in
  one-named few e ei =
      let same : v % 0x100000000000000 ≡ v = omega (arith, p.small, power-ten i (omega arith)) in
      rw (all, whole, e, ei, same)

pub rows-hold : Rows
unfolding rows identifier_in is worth
rows-hold = refl
