-- One reply: what can become of it in either mode; and strict, a notice, a negative and a positive are exactly what document 01 says they are.
use Prim.Native.Nat.{ℕ, ◌<◌}
use native.Mathlib.Omega.{arith}
use mathlib.Core.Bool.{Bool, true, false, cond}
use mathlib.Core.Path.{◌≡◌, refl, ◌∙◌, ap}
use mathlib.Core.Logic.{◌≢◌, ◌⊎◌, inl, inr}
use mathlib.Core.List.{List, [], ◌∷◌}
use mathlib.Core.Option.{none}
use lib.Dec.{leb, ltb, eqb}
use lib.ListN.{length, get_or}
use borrow.Author.Tests.{ltb-true, eqb-true, eqb-false, lt-ltb, eq-eqb, ne_eqb}
use Rattle.rules.specs.Answers.{Part, part, behind, Fault, length_error, Outcome, positive, negative}
use Rattle.rules.specs.Calls.{head}
use Rattle.rules.specs.InOrder.{unless, judge}
use Rattle.rules.specs.Exchange.{Asked, Step, pending, settles, wrong, negative_checks, coded, positive_checks, by_first, look}
use Rattle.rules.proofs.Judging.{Pass, by-test, both, judge-pass, judge-inv, judge-ind}

-- What holds of every fault, of a notice, of every negative, and of the positive whose checks pass holds of a reply judged, in either mode.
module _ (strict : Bool) (a : Asked) (hush : Bool) (p : Part) (P : Step → Type 0) (faulty : (f : Fault) → P (wrong f)) where
  pub look-ind : P pending → ((c : ℕ) → P (settles (negative c)))
      → (0 < length p.bytes → Pass (positive_checks strict a hush p.bytes) → P (settles (positive (behind (head a.sub) p)))) → P (look strict a hush p)
  unfolding look
  look-ind notice negatives positives =
      judge-ind P wrong (unless (ltb 0 (length p.bytes)) (length_error strict 1 none) ∷ []) (by_first strict a hush p p.bytes) faulty
      (λ h. first (eqb (get_or p.bytes 0 0) 0x7f) (ltb-true 0 (length p.bytes) h.0))
    where
      code : (b : Bool) (c : ℕ) → P (cond b pending (settles (negative c)))
      code true c = notice
      code false c = negatives c

      first : (b : Bool) → 0 < length p.bytes
          → P (cond b (judge wrong (negative_checks strict a p.bytes) (coded (get_or p.bytes 2 0))) (judge wrong (positive_checks strict a hush p.bytes) (settles (positive (behind (head a.sub) p)))))
      first true h = judge-ind P wrong (negative_checks strict a p.bytes) (coded (get_or p.bytes 2 0)) faulty (λ k. code (eqb (get_or p.bytes 2 0) 0x78) (get_or p.bytes 2 0))
      first false h = judge-ind P wrong (positive_checks strict a hush p.bytes) _ faulty (positives h)

-- The three bytes of a negative response.
pub three : (r : List ℕ) → length r ≡ 3 → r ≡ get_or r 0 0 ∷ get_or r 1 0 ∷ get_or r 2 0 ∷ []
three [] e = absurd (omega arith)
three (x ∷ []) e = absurd (omega arith)
three (x ∷ y ∷ []) e = absurd (omega arith)
three (x ∷ y ∷ z ∷ []) e = refl
three (x ∷ y ∷ z ∷ u ∷ r) e = absurd (omega arith)

-- What a reply that is no fault shows of itself.
pub record Sane (a : Asked) (hush : Bool) (p : Part) (s : Step) : Type 0 where
  pub some_byte : 0 < length p.bytes
  pub kind :
      ((get_or p.bytes 0 0 ≡ 0x7f) × Pass (negative_checks true a p.bytes) × (coded (get_or p.bytes 2 0) ≡ s))
      ⊎ ((get_or p.bytes 0 0 ≢ 0x7f) × Pass (positive_checks true a hush p.bytes) × (settles (positive (behind (head a.sub) p)) ≡ s))

module _ (a : Asked) (hush : Bool) (p : Part) where
  pub sane : (s : Step) → ((f : Fault) → wrong f ≡ s → ⊥) → look true a hush p ≡ s → Sane a hush p s
  unfolding look
  sane s ok e =
      let h = judge-inv wrong (unless (ltb 0 (length p.bytes)) (length_error true 1 none) ∷ []) ok e in
      record {
        some_byte = ltb-true 0 (length p.bytes) h.0.0;
        kind =
            elim (by-test (eqb (get_or p.bytes 0 0) 0x7f) h.1) [
              | inl k ↦ (let j = judge-inv wrong (negative_checks true a p.bytes) ok k.1 in inl (eqb-true _ 0x7f k.0, j.0, j.1))
              | inr k ↦ (let j = judge-inv wrong (positive_checks true a hush p.bytes) ok k.1 in inr (eqb-false _ 0x7f k.0, j.0, j.1))
            ];
      }

-- "7F SID code"
pub negative-form : (a : Asked) (r : List ℕ) → get_or r 0 0 ≡ 0x7f → Pass (negative_checks true a r) → r ≡ 0x7f ∷ a.sid ∷ get_or r 2 0 ∷ []
negative-form a r e p =
    let long : length r ≡ 3 = eqb-true (length r) 3 (both (leb 3 (length r)) (eqb (length r) 3) p.0).1 in
    let echo : get_or r 1 0 ≡ a.sid = eqb-true (get_or r 1 0) a.sid p.1.0 in
    let whole = three r long in
    cc

negative-pass : (a : Asked) (code : ℕ) → Pass (negative_checks true a (0x7f ∷ a.sid ∷ code ∷ []))
negative-pass a code = (refl, (eq-eqb a.sid a.sid refl, tt))

coded-pending : (code : ℕ) → coded code ≡ pending → code ≡ 0x78
coded-pending code e =
    elim (by-test (eqb code 0x78) e) [
      | inl h ↦ eqb-true code 0x78 h.0
      | inr h ↦ absurd (settles≢pending h.1)
    ]
  where
    settles≢pending : {o : Outcome} → settles o ≡ pending → ⊥
    settles≢pending e = let z : ◌≡◌ {A = ℕ} 0 1 = cc in omega arith

pub coded-settles : (code : ℕ) (o : Outcome) → coded code ≡ settles o → (code ≢ 0x78) × (negative code ≡ o)
coded-settles code o e =
    elim (by-test (eqb code 0x78) e) [
      | inl h ↦ absurd (pending≢settles h.1)
      | inr h ↦ (let s = h.1 in (eqb-false code 0x78 h.0, cc))
    ]
  where
    pending≢settles : {o : Outcome} → pending ≡ settles o → ⊥
    pending≢settles e = let z : ◌≡◌ {A = ℕ} 0 1 = cc in omega arith

no-fault-pends : (f : Fault) → wrong f ≡ pending → ⊥
no-fault-pends f e = let z : ◌≡◌ {A = ℕ} 0 1 = cc in omega arith

module _ (a : Asked) (hush : Bool) where
  -- A notice.
  pub notice-look : (at : ℕ) → look true a hush (part at (0x7f ∷ a.sid ∷ 0x78 ∷ [])) ≡ pending
  unfolding look
  notice-look at = judge-pass wrong (negative_checks true a (0x7f ∷ a.sid ∷ 0x78 ∷ [])) pending (negative-pass a 0x78)

  pub look-notice : (p : Part) → look true a hush p ≡ pending → p.bytes ≡ 0x7f ∷ a.sid ∷ 0x78 ∷ []
  look-notice p e =
      elim (sane a hush p pending no-fault-pends e).kind [
        | inl h ↦
            (negative-form a p.bytes h.0 h.1 ∙
            ap (λ (code : ℕ). 0x7f ∷ a.sid ∷ code ∷ []) (coded-pending (get_or p.bytes 2 0) h.2))
        | inr h ↦ absurd (let s = h.2 in let z : ◌≡◌ {A = ℕ} 0 1 = cc in omega arith)
      ]

  -- A negative.
  pub negative-look : (at code : ℕ) → code ≢ 0x78 → look true a hush (part at (0x7f ∷ a.sid ∷ code ∷ [])) ≡ settles (negative code)
  unfolding look
  negative-look at code n =
      judge-pass wrong (negative_checks true a (0x7f ∷ a.sid ∷ code ∷ [])) (coded code) (negative-pass a code) ∙ rw (ne_eqb code 0x78 n)

  -- A positive.
  pub positive-look : (p : Part) → 0 < length p.bytes → get_or p.bytes 0 0 ≢ 0x7f → Pass (positive_checks true a hush p.bytes)
      → look true a hush p ≡ settles (positive (behind (head a.sub) p))
  unfolding look
  positive-look p h n g = rw (lt-ltb 0 (length p.bytes) h, ne_eqb (get_or p.bytes 0 0) 0x7f n) (judge-pass wrong (positive_checks true a hush p.bytes) _ g)
