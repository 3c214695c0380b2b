-- A value read byte by byte, forwards and backwards, and what the answer of `block_length` tells of it.
use Rattle.std.specs.Prelude.{Some, None}
use Prim.Native.Nat.{ℕ, zero, suc, ◌+◌, ◌-◌, ◌*◌, ◌/◌, ◌%◌, ◌^◌, ◌≤◌, ◌<◌}
use native.Mathlib.Numerals.{add-one}
use native.Mathlib.Omega.{arith}
use mathlib.Core.Bool.{Bool, true, false, cond}
use mathlib.Core.Path.{◌≡◌, refl, ◌∙◌, ap}
use mathlib.Core.Logic.{◌≢◌}
use mathlib.Core.List.{List, [], ◌∷◌}
use borrow.Author.Tests.{le-ltb, ltb-false, eqb-true, eqb-false, eq-eqb, ne_eqb}
use lib.Dec.{ltb, eqb}
use lib.ListN.{length, get_or, take, drop}
use lib.Seq.{drop-cons}
use Rattle.std.specs.List.{push}
use Rattle.rules.specs.Bytes.{value, value_from}
use Rattle.lengths.specs.Numbers.{number_of}

grows : (v : ℕ) (bs : List ℕ) → v ≤ value_from v bs
grows v [] = omega arith
grows v (b ∷ bs) = omega (arith, grows (v * 256 + b) bs)

-- The loop of `block_length` has read i bytes to v, which is full.
pub too_much : (bs : List ℕ) (i v : ℕ) → i < length bs → 2 ^ 64 ≤ v * 256 → value_from v (drop i bs) ≡ value bs → None ≡ number_of (value bs)
too_much bs i v h full e =
    let more = grows (v * 256 + get_or bs i 0) (drop (i + 1) bs) in
    let next : value_from v (drop i bs) ≡ value_from (v * 256 + get_or bs i 0) (drop (i + 1) bs) = rw (drop-cons bs i 0 h, add-one) in
    rw (le-ltb (value bs) (2 ^ 64) (omega arith))

-- The value of the first i bytes ends in the last of them.
taken : (v : ℕ) (bs : List ℕ) (i : ℕ) → i < length bs → value_from v (take (suc i) bs) ≡ value_from v (take i bs) * 256 + get_or bs i 0
taken v [] i h = absurd (omega arith)
taken v (b ∷ bs) zero h = refl
taken v (b ∷ bs) (suc i) h = taken (v * 256 + b) bs i (omega arith)

pub ends : (bs : List ℕ) (i : ℕ) → 0 < i → i ≤ length bs → value (take i bs) ≡ value (take (i - 1) bs) * 256 + get_or bs (i - 1) 0
ends bs zero h k = absurd (omega arith)
ends bs (suc i) h k = let e : suc i - 1 ≡ i = omega arith in rw e (taken 0 bs i (omega arith))

-- The value of bytes that end in byte b.
value-push : (v : ℕ) (bs : List ℕ) (b : ℕ) → value_from v (push bs b) ≡ value_from v bs * 256 + b
value-push v [] b = refl
value-push v (x ∷ bs) b = value-push (v * 256 + x) bs b

-- The loop of `record_length_is` compares what is left of a length with the value of bytes that end in byte b.
module _ (left : ℕ) (rest before : List ℕ) (b : ℕ) (last : rest ≡ push before b) where
  is : value rest ≡ value before * 256 + b
  is = ap value last ∙ value-push 0 before b

  pub decides : b < 256 → left % 256 ≢ b → eqb left (value rest) ≡ false
  decides byte h = ne_eqb left (value rest) (λ e. h (omega (arith, is)))

  pub goes_on : left % 256 ≡ b → eqb (left / 256) (value before) ≡ eqb left (value rest)
  goes_on h = go (eqb left (value rest)) refl
    where
      go : (t : Bool) → eqb left (value rest) ≡ t → eqb (left / 256) (value before) ≡ t
      go true e = eq-eqb (left / 256) (value before) (omega (arith, is, eqb-true left (value rest) e))
      go false e = ne_eqb (left / 256) (value before) (λ same. eqb-false left (value rest) e (omega (arith, is)))

-- What the answer tells of a number n.
module _ (n : ℕ) where
  pub told : (v : ℕ) → number_of n ≡ Some v → n ≡ v
  told v e = go (ltb n (2 ^ 64)) e
    where
      go : (t : Bool) → cond t (Some n) None ≡ Some v → n ≡ v
      go true p = cc
      go false p = cc

  pub high : number_of n ≡ None → 2 ^ 64 ≤ n
  high e = go (ltb n (2 ^ 64)) refl e
    where
      go : (t : Bool) → ltb n (2 ^ 64) ≡ t → cond t (Some n) None ≡ None → 2 ^ 64 ≤ n
      go true q p = cc
      go false q p = ltb-false n (2 ^ 64) q
