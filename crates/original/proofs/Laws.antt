-- Laws of runs and of bits.
use Prim.Native.Nat.{ℕ, suc, ◌+◌, ◌-◌, ◌*◌, ◌%◌, ◌/◌, ◌^◌, ◌≤◌, ◌<◌}
use native.Mathlib.Omega.{arith}
use mathlib.Core.Bool.{Bool, true, false, cond, not, ◌&&◌, ◌||◌}
use mathlib.Core.Path.{◌≡◌, refl, sym, ◌∙◌, ap, ap₂}
use mathlib.Core.List.{List, [], ◌∷◌, ◌++◌}
use mathlib.Core.Option.{Option, none, some}
use lib.Bits.{bit_and, bit_or, and_mask, and_high, or_block, or_zero_r}
use lib.Dec.{leb, ltb, eqb, leb-suc-suc, eqb-suc-suc}
use lib.ListN.{length}
use borrow.Author.Tests.{ltb-true, ltb-false, leb-true, leb-false, lt-ltb, le-ltb, le-leb, lt-leb, eqb-true, eqb-false, eq-eqb, ne_eqb}
use Rattle.rules.specs.After.{most}
use Rattle.rules.specs.Answers.{fault, length_error}
use Rattle.rules.specs.Bytes.{two, every, is_byte}
use Rattle.rules.specs.Calls.{with_bit7}
use Rattle.rules.specs.Events.{Event}
use Rattle.rules.specs.InOrder.{in_strict}
use Rattle.rules.proofs.Judging.{both}
use Rattle.original.specs.Rust.{World, Run, ok, err, panics, and_then, is_empty}
use Rattle.original.specs.Errors.{Error, InvalidLength, Deviation, InvalidResponseLength}
use Rattle.original.specs.Client.{UDSConfig, exceeds}
use Rattle.original.specs.Shown.{fail, shown, carried}

pub shown-then : {A B : Type 0} (r : Run Error A) (k : A → World → Run Error B) → shown (and_then r k) ≡ and_then (shown r) (λ x w. shown (k x w))
shown-then (ok x w) k = refl
shown-then (err e w) k = refl
shown-then (panics w) k = refl

pub decide : {P : Type 0} (t : Bool) → (t ≡ true → P) → (t ≡ false → P) → P
decide true f g = f refl
decide false f g = g refl

pub not-leb : (a b : ℕ) → ltb a b ≡ not (leb b a)
not-leb a b = go (leb b a) refl
  where
    go : (t : Bool) → leb b a ≡ t → ltb a b ≡ not t
    go true h = le-ltb a b (leb-true b a h)
    go false h = lt-ltb a b (leb-false b a h)

pub not-ltb : (a b : ℕ) → leb a b ≡ not (ltb b a)
not-ltb a b = go (ltb b a) refl
  where
    go : (t : Bool) → ltb b a ≡ t → leb a b ≡ not t
    go true h = lt-leb a b (ltb-true b a h)
    go false h = le-leb a b (ltb-false b a h)

pub strictly-not : (strict t : Bool) → (strict && not t) ≡ not (in_strict strict t)
strictly-not true t = refl
strictly-not false t = refl

-- A bound of both modes, and one of strict only.
pub also-strictly : (a t : Bool) (strict u : Bool) → a ≡ not t → (a || (strict && not u)) ≡ not (t && in_strict strict u)
also-strictly a true strict u h = rw h (strictly-not strict u)
also-strictly a false strict u h = rw h refl

pub low-7 : (s : ℕ) → bit_and s 0x7f ≡ s % 128
low-7 s = and_mask s 7

pub bit-7 : (s : ℕ) → s < 256 → not (eqb (bit_and s 0x80) 0) ≡ leb 128 s
bit-7 s h = ap (λ (x : ℕ). not (eqb x 0)) (and_high s 1 7) ∙ go (leb 128 s) refl
  where
    go : (t : Bool) → leb 128 s ≡ t → not (eqb (s / 128 % 2 * 128) 0) ≡ t
    go true k = let k' = leb-true 128 s k in let e : s / 128 ≡ 1 = omega arith in rw e refl
    go false k = let k' = leb-false 128 s k in let e : s / 128 ≡ 0 = omega arith in rw e refl

-- A length error, told.
pub bad-length : (strict : Bool) (least : ℕ) (most : Option ℕ) (r : List ℕ) (w : World) {A : Type 0}
    → shown {A = A} (err (cond strict (Deviation (InvalidLength least most) r) InvalidResponseLength) w)
    ≡ err (fail (fault (length_error strict least most)) (carried (length_error strict least most) r)) w
bad-length true least most r w = refl
bad-length false least most r w = refl

pub hushing : (strict s p : Bool) → (strict && s && not p) ≡ not (in_strict strict (not (s && not p)))
hushing true true true = refl
hushing true true false = refl
hushing true false p = refl
hushing false s p = refl

-- validate_response_length's test.
pub bounds-not : (config : UDSConfig) (adapter : List Event) (strict : Bool) (least : ℕ) (upper : Option ℕ) (n : ℕ)
    → (strict && (ltb n least || exceeds config adapter n upper)) ≡ not (in_strict strict (leb least n && most upper n))
bounds-not config adapter false least upper n = refl
bounds-not config adapter true least none n = rw (not-leb n least) (go (leb least n))
  where
    go : (t : Bool) → (not t || false) ≡ not (t && true)
    go true = refl
    go false = refl
bounds-not config adapter true least (some k) n = rw (not-leb n least, not-leb k n) (go (leb least n) (leb n k))
  where
    go : (t u : Bool) → (not t || not u) ≡ not (t && u)
    go true u = refl
    go false u = refl

-- `value | 0x80`.
pub set-7 : (s : ℕ) → s < 256 → bit_or s 0x80 ≡ s % 128 + 128
set-7 s h =
    let e : s ≡ s / 128 * 2 ^ 7 + s % 128 = omega arith in
    ap (λ (x : ℕ). bit_or x 0x80) e ∙ or_block 7 (s / 128) 1 (s % 128) 0 (omega arith) (omega arith)
    ∙ ap₂ (λ (x y : ℕ). x * 2 ^ 7 + y) (go (eqb (s / 128) 1) refl) (or_zero_r (s % 128)) ∙ (omega arith)
  where
    go : (b : Bool) → eqb (s / 128) 1 ≡ b → bit_or (s / 128) 1 ≡ 1
    go true k = rw (eqb-true (s / 128) 1 k) refl
    go false k = let n = eqb-false (s / 128) 1 k in let z : s / 128 ≡ 0 = omega arith in rw z refl

pub record SentAs (quiet : Bool) (sub u : ℕ) : Type 0 where
  pub is : with_bit7 quiet (some sub) ≡ some u
  pub low : u % 128 ≡ sub % 128
  pub odd : u % 2 ≡ sub % 2
  pub u8 : u < 256

pub sent-as : (sub : ℕ) → sub < 256 → SentAs false sub sub
sent-as sub h = record { is = refl; low = refl; odd = refl; u8 = h }

pub sent-with : (sub : ℕ) → sub < 256 → SentAs true sub (bit_or sub 0x80)
sent-with sub h =
    let e = set-7 sub h in
    record { is = ap some (sym e); low = rw e (omega arith); odd = rw e (omega arith); u8 = rw e (omega arith) }

-- A list that has a byte, or two.
pub open1 : (P : List ℕ → Type 0) → ((a : ℕ) (d : List ℕ) → P (a ∷ d)) → (r : List ℕ) → 1 ≤ length r → P r
open1 P f [] h = absurd (omega arith)
open1 P f (a ∷ d) h = f a d

pub open2 : (P : List ℕ → Type 0) → ((a b : ℕ) (d : List ℕ) → P (a ∷ b ∷ d)) → (r : List ℕ) → 2 ≤ length r → P r
open2 P f [] h = absurd (omega arith)
open2 P f (a ∷ []) h = absurd (omega arith)
open2 P f (a ∷ b ∷ d) h = f a b d

pub two-more : (j n : ℕ) → leb (suc (suc j)) (suc (suc n)) ≡ leb j n
two-more j n = leb-suc-suc (suc j) (suc n) ∙ leb-suc-suc j n

pub two-more-equal : (j n : ℕ) → eqb (suc (suc n)) (suc (suc j)) ≡ eqb n j
two-more-equal j n = eqb-suc-suc (suc n) (suc j) ∙ eqb-suc-suc n j

-- Bytes and what they were read as.
pub pair-back : (a b : ℕ) → b < 256 → two (a * 256 + b) ≡ a ∷ b ∷ []
pair-back a b h =
    let q : (a * 256 + b) / 256 ≡ a = omega arith in
    let r : (a * 256 + b) % 256 ≡ b = omega arith in
    rw (q, r) refl

pub bytes-head : (x : ℕ) (d : List ℕ) → every is_byte (x ∷ d) ≡ true → x < 256
bytes-head x d h = ltb-true x 256 (both (is_byte x) (every is_byte d) h).0

pub bytes-tail : (x : ℕ) (d : List ℕ) → every is_byte (x ∷ d) ≡ true → every is_byte d ≡ true
bytes-tail x d h = (both (is_byte x) (every is_byte d) h).1

pub quad-back : (x y z u : ℕ) → every is_byte (x ∷ y ∷ z ∷ u ∷ []) ≡ true → two (x * 256 + y) ++ two ((z * 256 + u) * 10 / 10) ≡ x ∷ y ∷ z ∷ u ∷ []
quad-back x y z u h =
    let h1 = bytes-tail x (y ∷ z ∷ u ∷ []) h in
    let h3 = bytes-tail z (u ∷ []) (bytes-tail y (z ∷ u ∷ []) h1) in
    let e : (z * 256 + u) * 10 / 10 ≡ z * 256 + u = omega arith in
    rw e (ap₂ (λ (l m : List ℕ). l ++ m) (pair-back x y (bytes-head y (z ∷ u ∷ []) h1)) (pair-back z u (bytes-head u [] h3)))

pub empty-not : (d : List ℕ) → is_empty d ≡ not (leb 1 (length d))
empty-not [] = refl
empty-not (x ∷ d) = rw (le-leb 1 (suc (length d)) (omega arith)) refl

pub equal-either : (a b : ℕ) → eqb a b ≡ eqb b a
equal-either a b = decide (eqb b a)
    (λ e. rw e (eq-eqb a b (sym (eqb-true b a e))))
    (λ e. rw e (ne_eqb a b (λ k. eqb-false b a e (sym k))))

pub append-nil : (l : List ℕ) → l ++ [] ≡ l
append-nil [] = refl
append-nil (x ∷ l) = ap (λ (m : List ℕ). x ∷ m) (append-nil l)

-- A list of one, or of two and more.
pub open12 : (P : List ℕ → Type 0) → ((a : ℕ) → P (a ∷ [])) → ((a b : ℕ) (d : List ℕ) → P (a ∷ b ∷ d)) → (r : List ℕ) → 1 ≤ length r → P r
open12 P f g [] h = absurd (omega arith)
open12 P f g (a ∷ []) h = f a
open12 P f g (a ∷ b ∷ d) h = g a b d

pub one_more : (n : ℕ) → 1 + n ≡ suc n
one_more n = omega arith

pub one_less : (n : ℕ) → suc n - 1 ≡ n
one_less n = omega arith
