-- The wide setting: off as before, on the same for the widths that were taken; and a number as bytes.
use Prim.Native.Nat.{ℕ, zero, suc, ◌+◌, ◌-◌, ◌*◌, ◌/◌, ◌%◌, ◌^◌, ◌≤◌, ◌<◌}
use native.Mathlib.Nat.{suc-add, div-eq_of_lt, pow-succ', one-le-pow, pow-le-pow_right, add-mul, mul_assoc, add_assoc, mod-eq_of_lt, mod-one, zero-mul, zero-add}
use native.Mathlib.Omega.{arith}
use mathlib.Core.Bool.{Bool, true, false, ◌&&◌}
use mathlib.Core.Path.{◌≡◌, refl, sym, ap, ap₂, ◌∙◌}
use mathlib.Core.List.{List, [], ◌∷◌, ◌++◌}
use lib.Arith.{mod-mul}
use lib.Dec.{leb, ltb}
use lib.ListN.{length, replicate}
use borrow.Author.Tests.{leb-true, le-leb}
use Rattle.rules.specs.Bytes.{value, value_from, bytes_of}
use Rattle.rules.specs.Calls.{Field, alfid, sent, request_of}
use Rattle.rules.specs.After.{checked, after}
use Rattle.rules.specs.Answers.{Part, Outcome, Answer, answer, if_positive}
use Rattle.rules.specs.Client.{Result, call, asked, events_in, refuse, answered}
use Rattle.rules.specs.Events.{within_limits, entries_from}
use Rattle.rules.specs.Exchange.{exchange, settle}
use Rattle.rules.specs.InOrder.{Check, unless, judge}
use Rattle.rules.specs.Refusals.{between, width, arguments}
use Rattle.rules.specs.Settings.{Setting, Lent}
use Rattle.rules.specs.Wide.{MemoryCall, reads, writes, downloads, uploads, asks, wide_rows, WideRows, Wide}
use Rattle.rules.proofs.Judging.{both}

pub bytes-length : (w v : ℕ) → length (bytes_of w v) ≡ w
bytes-length zero v = refl
bytes-length (suc w) v = ap suc (bytes-length w v)

value-from : (u w v : ℕ) → value_from u (bytes_of w v) ≡ u * 256 ^ w + v % 256 ^ w
value-from u zero v = rw (mod-one v) (omega arith)
value-from u (suc w) v =
    let digit = v / 256 ^ w % 256 in
    let split : v % (256 * 256 ^ w) ≡ digit * 256 ^ w + v % 256 ^ w = mod-mul v {m = 256} {c = 256 ^ w} (omega arith)
    (one-le-pow w 256 (omega arith)) in
    value-from (u * 256 + digit) w v ∙ rw (pow-succ' 256 w, split, add-mul, mul_assoc, add_assoc)

pub value-back : (w v : ℕ) → v < 256 ^ w → value (bytes_of w v) ≡ v
value-back w v h = value-from 0 w v ∙ rw (zero-mul, zero-add, mod-eq_of_lt h)

-- Above eight bytes a number of 64 bits begins with a zero.
zero-first : (v k : ℕ) → v < 256 ^ 8 → bytes_of (k + 8) v ≡ replicate k 0 ++ bytes_of 8 v
zero-first v zero h = refl
zero-first v (suc k) h =
    let none : v / 256 ^ (k + 8) ≡ 0 = div-eq_of_lt (omega (arith, pow-le-pow_right {n = 256} (omega arith) {i = 8} {j = k + 8} (omega arith))) in
    rw (suc-add k 8) (ap₂ (λ (b : ℕ) (l : List ℕ). b ∷ l) (ap (λ (n : ℕ). n % 256) none) (zero-first v k h))

padded : (v w : ℕ) → v < 2 ^ 64 → 8 ≤ w → bytes_of w v ≡ replicate (w - 8) 0 ++ bytes_of 8 v
padded v w h k =
    let behind : w - 8 + 8 ≡ w = omega arith in
    ap (λ (n : ℕ). bytes_of n v) (sym behind) ∙ zero-first v (w - 8) h

-- A width of 1 to 8 is refused as with the setting off.
same_width : (v w : ℕ) → between 1 8 w ≡ true → width (alfid v w true) ≡ width (alfid v w false)
same_width v w h =
    let k = both (leb 1 w) (leb w 8) h in
    ap (λ (t : Bool). unless (leb 1 w && t) 6 ∷ unless (ltb v (256 ^ w)) 7 ∷ []) (le-leb w 15 (omega (arith, leb-true w 8 k.1)) ∙ sym k.1)

-- A call goes by its fields' refusals and bytes.
module _ (strict : Bool) (x : Setting) (l : Lent) (a a' s s' : Field) (p : width a ≡ width a') (q : width s ≡ width s') (b : sent a ≡ sent a') (d : sent s ≡ sent s') where
  checked-by-bytes : (f : MemoryCall) (r : Part) → checked strict (asks f a s) r ≡ checked strict (asks f a' s') r
  unfolding checked
  checked-by-bytes reads r = rw d
  checked-by-bytes (writes w) r = rw (b, d)
  checked-by-bytes (downloads c e) r = refl
  checked-by-bytes (uploads c e) r = refl

  arguments-by-bytes : (f : MemoryCall) → arguments (asks f a s) ≡ arguments (asks f a' s')
  arguments-by-bytes reads = rw (p, q, b, d)
  arguments-by-bytes (writes w) = rw (p, q, b, d)
  arguments-by-bytes (downloads c e) = rw (p, q, b, d)
  arguments-by-bytes (uploads c e) = rw (p, q, b, d)

  request-by-bytes : (f : MemoryCall) → request_of x.quiet (asks f a s) ≡ request_of x.quiet (asks f a' s')
  request-by-bytes reads = rw (b, d)
  request-by-bytes (writes w) = rw (b, d)
  request-by-bytes (downloads c e) = rw (b, d)
  request-by-bytes (uploads c e) = rw (b, d)

  unfoldable heard : MemoryCall → Answer
  heard f = exchange strict (asked x (asks f a s)) x.overall (events_in l)

  -- A call by its refusals, its request and the outcome of its checks.
  abbrev ends : MemoryCall → List (Check ℕ) → List ℕ → Outcome → Result
  ends f cs r o =
      let y = heard f in
      judge (refuse x l)
      (cs ++ (unless (leb (length r) 4095) 8 ∷ unless (leb (length r) (length l.buffer)) 9 ∷ unless (within_limits l.form l.events l.replies) 10 ∷ []))
      (answered x (asks f a s) l r (answer (if_positive y.outcome (λ z. o) y.outcome) y.time y.events y.notices y.reply))

  by_bytes : (f : MemoryCall) → call strict x (asks f a s) l ≡ call strict x (asks f a' s') l
  unfolding call heard
  by_bytes f =
      let c = asks f a s in
      ap (λ (cs : List (Check ℕ)). ends f cs (request_of x.quiet c) (checked strict c (heard f).reply)) (arguments-by-bytes f) ∙
      ap₂ (λ (r : List ℕ) (o : Outcome). ends f (arguments (asks f a' s')) r o) (request-by-bytes f) (checked-by-bytes f (heard f).reply) ∙
      go f
    where
      go : (f : MemoryCall) → ends f (arguments (asks f a' s')) (request_of x.quiet (asks f a' s')) (checked strict (asks f a' s') (heard f).reply) ≡ call strict x (asks f a' s') l
      go reads = refl
      go (writes w) = refl
      go (downloads c e) = refl
      go (uploads c e) = refl

as-off : (strict : Bool) (x : Setting) (f : MemoryCall) (v w u w' : ℕ) (l : Lent) → between 1 8 w ≡ true → between 1 8 w' ≡ true
    → call strict x (asks f (alfid v w true) (alfid u w' true)) l ≡ call strict x (asks f (alfid v w false) (alfid u w' false)) l
as-off strict x f v w u w' l h h' =
    by_bytes strict x l (alfid v w true) (alfid v w false) (alfid u w' true) (alfid u w' false) (same_width v w h) (same_width u w' h') refl refl f

pub wide : Wide
wide = record {
  off = λ v w. refl;
  as-off = as-off;
  long = λ v w setting. bytes-length w v;
  back = λ v w setting. value-back w v;
  padded = padded;
}

pub wide-rows-hold : WideRows
unfolding wide_rows call within_limits entries_from exchange settle
wide-rows-hold = refl
