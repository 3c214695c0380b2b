-- Numbers to bytes and back: memory_bytes, the two format bytes, and the values read by a fold.
use Prim.Native.Nat.{ℕ, zero, suc, ◌+◌, ◌-◌, ◌*◌, ◌%◌, ◌/◌, ◌^◌, ◌≤◌, ◌<◌}
use native.Mathlib.Nat.{zero-add, suc-add, pow-succ', one-le-pow, pow-le-pow_right, div-eq_of_lt, div-lt_iff_lt-mul}
use native.Mathlib.Omega.{arith}
use mathlib.Core.Bool.{Bool, true, false, not, ◌&&◌, false≢true, ◌||◌}
use mathlib.Core.Path.{◌≡◌, refl, sym, ◌∙◌, ap, subst, subst⁻¹}
use mathlib.Core.List.{List, [], ◌∷◌}
use lib.Bits.{bit_and, bit_or, and_mask, or_shifted}
use lib.Dec.{leb, ltb, eqb}
use lib.ListN.{length, take, drop}
use borrow.Author.Tests.{ltb-true, ltb-false, leb-true, leb-false, lt-ltb, le-ltb, le-leb, eqb-true, eqb-false, eq-eqb, ne_eqb}
use Rattle.rules.specs.Bytes.{bytes_of, value_from, value, every, is_byte}
use Rattle.rules.specs.Calls.{Field, given, alfid, sent}
use Rattle.rules.specs.InOrder.{judge, in_strict}
use Rattle.rules.specs.Refusals.{between, width}
use Rattle.rules.proofs.Judging.{both}
use Rattle.original.specs.Rust.{World, Run, and_then, shl, fold_from, is_empty}
use Rattle.original.specs.Errors.{Error}
use Rattle.original.specs.Client.{any_non_zero}
use Rattle.original.specs.Shown.{Fail, shown, refusing, field}
use Rattle.original.specs.Demand2.{Typed}
use Rattle.original.proofs.Laws.{decide, strictly-not, bytes-head, bytes-tail}

-- The first k of k + w bytes are 0 exactly where the number fits w bytes, and the last w are its bytes.
module _ (w v : ℕ) where
  leading : (k : ℕ) → v < 256 ^ (k + w) → any_non_zero (take k (bytes_of (k + w) v)) ≡ not (ltb v (256 ^ w))
  leading zero h = rw (lt-ltb v (256 ^ w) (subst (λ (n : ℕ). v < 256 ^ n) (zero-add w) h)) refl
  leading (suc k) h =
      let p = 256 ^ (k + w) in
      let grows : 256 ^ w ≤ p = pow-le-pow_right {n = 256} (omega arith) {i = w} {j = k + w} (omega arith) in
      let more : 1 ≤ p = one-le-pow (k + w) 256 (omega arith) in
      let under : v < 256 * p = subst (λ (n : ℕ). v < n) (ap (λ (n : ℕ). 256 ^ n) (suc-add k w) ∙ pow-succ' 256 (k + w)) h in
      let digit : v / p < 256 = (div-lt_iff_lt-mul {k = p} {x = v} {y = 256} (omega arith)).1 under in
      rw (suc-add k w)
      (decide (eqb (v / p % 256) 0)
      (λ e.
      let z = eqb-true (v / p % 256) 0 e in
      let none : v / p < 1 = omega arith in
      rw e (leading k (omega (arith, (div-lt_iff_lt-mul {k = p} {x = v} {y = 1} (omega arith)).0 none))))
      (λ e.
      let z = eqb-false (v / p % 256) 0 e in
      rw (
        e,
        le-ltb v (256 ^ w) (decide (ltb v p)
            (λ l. absurd (z (rw (div-eq_of_lt (ltb-true v p l)) refl)))
            (λ l. let m = ltb-false v p l in omega arith)),
      ) refl))

  trailing : (k : ℕ) → drop k (bytes_of (k + w) v) ≡ bytes_of w v
  trailing zero = rw (zero-add w) refl
  trailing (suc k) = rw (suc-add k w) (trailing k)

-- `value.to_be_bytes()` of a u64, cut before its last w bytes.
digits : (v : ℕ) → v < 2 ^ 64 → (w : ℕ) → w ≤ 8
    → (any_non_zero (take (8 - w) (bytes_of 8 v)) ≡ not (ltb v (256 ^ w))) × (drop (8 - w) (bytes_of 8 v) ≡ bytes_of w v)
digits v h w k =
    let e : 8 - w + w ≡ 8 = omega arith in
    subst (λ (n : ℕ). (any_non_zero (take (8 - w) (bytes_of n v)) ≡ not (ltb v (256 ^ w))) × (drop (8 - w) (bytes_of n v) ≡ bytes_of w v)) e
    (leading w v (8 - w) (subst⁻¹ (λ (n : ℕ). v < 256 ^ n) e h), trailing w v (8 - w))

-- An address or a size, with its refusals 6 and 7.
pub fielded : {A : Type 0} (w : World) (f : Field) → Typed f → (k : List ℕ → World → Run Error A) (X : Run Fail A) → shown (k (sent f) w) ≡ X
    → shown (and_then (field f w) k) ≡ judge (λ n. refusing n w) (width f) X
fielded w (given bs) t k X h = h
fielded w (alfid v n wide) t k X h = rw t.1
    (decide (between 1 8 n)
    (λ e.
    let both' = both (leb 1 n) (leb n 8) e in
    let d = digits v t.0 n (leb-true n 8 both'.1) in
    rw (e, d.0, d.1)
    (decide (ltb v (256 ^ n))
    (λ e. rw e h)
    (λ e. rw e refl)))
    (λ e. rw e refl))

-- `(size << 4) | address`, `(compression << 4) | encryption`
pub nibbles : (n m : ℕ) → m ≤ 15 → bit_or (shl n 4) m ≡ n * 16 + m
nibbles n m h = or_shifted n 4 m (omega arith)

-- `assert!(!s.is_empty() && s.len() <= 0xF)`
pub asserted : (s : List ℕ) → (not (is_empty s) && leb (length s) 15) ≡ between 1 15 (length s)
asserted [] = refl
asserted (x ∷ s) = rw (le-leb 1 (suc (length s)) (omega arith)) refl

folded_from : (acc : ℕ) (bs : List ℕ) → every is_byte bs ≡ true → fold_from acc bs ≡ value_from acc bs
folded_from acc [] h = refl
folded_from acc (b ∷ bs) h = rw (or_shifted acc 8 b (bytes-head b bs h)) (folded_from (acc * 256 + b) bs (bytes-tail b bs h))

pub folded : (bs : List ℕ) → every is_byte bs ≡ true → fold_from 0 bs ≡ value bs
folded bs h = folded_from 0 bs h

bytes-of : (w v : ℕ) → every is_byte (bytes_of w v) ≡ true
bytes-of zero v = refl
bytes-of (suc w) v = rw (lt-ltb (v / 256 ^ w % 256) 256 (omega arith)) (bytes-of w v)

pub sent-bytes : (f : Field) → Typed f → every is_byte (sent f) ≡ true
sent-bytes (given bs) t = t
sent-bytes (alfid v w wide) t = bytes-of w v

-- The tests of calls 11 and 12.
pub zero-not : (n : ℕ) → eqb n 0 ≡ not (ltb 0 n)
zero-not n = decide (ltb 0 n)
    (λ e. let k = ltb-true 0 n e in rw (e, ne_eqb n 0 (λ z. omega arith)) refl)
    (λ e. let k = ltb-false 0 n e in rw (e, eq-eqb n 0 (omega arith)) refl)

pub low-nibble : (b : ℕ) → bit_and b 0x0f ≡ b % 16
low-nibble b = and_mask b 4

pub as_long : (strict : Bool) (n m : ℕ)
    → (ltb (suc m) (n + 1) || (strict && not (eqb (suc m) (n + 1)))) ≡ not (leb (n + 2) (suc (suc m)) && in_strict strict (leb (suc (suc m)) (n + 2)))
as_long strict n m = decide (leb (n + 2) (suc (suc m)))
    (λ e. let k = leb-true (n + 2) (suc (suc m)) e in
    rw (e, le-ltb (suc m) (n + 1) (omega arith), exact k) (strictly-not strict (leb (suc (suc m)) (n + 2))))
    (λ e. let k = leb-false (n + 2) (suc (suc m)) e in rw (e, lt-ltb (suc m) (n + 1) (omega arith)) refl)
  where
    exact : n + 2 ≤ suc (suc m) → eqb (suc m) (n + 1) ≡ leb (suc (suc m)) (n + 2)
    exact k = decide (leb (suc (suc m)) (n + 2))
        (λ e. let j = leb-true (suc (suc m)) (n + 2) e in rw (e, eq-eqb (suc m) (n + 1) (omega arith)) refl)
        (λ e. let j = leb-false (suc (suc m)) (n + 2) e in rw (e, ne_eqb (suc m) (n + 1) (λ z. omega arith)) refl)

pub long-one : (n : ℕ) → n + 1 - 1 ≡ n
long-one n = omega arith
