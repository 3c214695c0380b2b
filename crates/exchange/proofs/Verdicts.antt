-- Checks in order, by the first that fails.
use Prim.Native.Nat.{ℕ, ◌≤◌, ◌<◌}
use native.Mathlib.Omega.{arith}
use mathlib.Core.Bool.{Bool, true, false, cond, not}
use mathlib.Core.Logic.{◌⊎◌, inl, inr}
use mathlib.Core.Path.{◌≡◌, refl, sym, ◌∙◌}
use mathlib.Core.List.{List, [], ◌∷◌, ◌++◌}
use mathlib.Core.Option.{Option, none, some}
use borrow.Author.Tests.{leb-true}
use lib.Bits.{bit_or}
use lib.Dec.{leb, eqb}
use lib.ListN.{length, get_or}
use Rattle.rules.specs.Answers.{Fault, deviation}
use Rattle.rules.specs.Calls.{head}
use Rattle.rules.specs.InOrder.{Check, unless, judge, in_strict}
use Rattle.rules.specs.Exchange.{Asked, echoing, positive_checks}
use Rattle.rules.proofs.Judging.{judge-append}
use Rattle.exchange.specs.Meaning.{first_of}

module _ {B : Type 0} (wrong : Fault → B) where
  -- What is right, or what the fault is.
  abbrev pub decided : Option Fault → B → B
  decided none right = right
  decided (some f) right = wrong f

  pub judged : (cs : List (Check Fault)) (right : B) → judge wrong cs right ≡ decided (first_of cs) right
  judged [] right = refl
  judged (c ∷ cs) right = go c.test (first_of cs) (judged cs right)
    where
      go : (t : Bool) {x : B} (o : Option Fault) → x ≡ decided o right → cond t x (wrong c.fault) ≡ decided (cond t o (some c.fault)) right
      go true o e = e
      go false o e = refl

-- Checks behind others count where those pass.
pub first-append : (cs ds : List (Check Fault)) → first_of (cs ++ ds) ≡ decided some (first_of cs) (first_of ds)
first-append cs ds = judge-append some cs ds none ∙ judged some cs (first_of ds)

-- The check in front passes where all do.
passed : (t : Bool) (o : Option Fault) (f : Fault) → cond t o (some f) ≡ none → (t ≡ true) × (o ≡ none)
passed true o f e = (refl, e)
passed false o f e = let z : ◌≡◌ {A = ℕ} 0 1 = cc in absurd (omega arith)

-- `if strict && .. { return .. }` is a test that counts in strict mode only. Within, it fails; behind, it passes, or the mode is lenient.
pub strict-fails : {strict test : Bool} → strict ≡ true → test ≡ false → in_strict strict test ≡ false
strict-fails s e = rw (s, e)

pub strict-passes : {A B : Type 0} {strict test : Bool} → A ⊎ B → (A → test ≡ true) → (B → strict ≡ false) → in_strict strict test ≡ true
strict-passes (inr b) right lenient = rw (lenient b)
strict-passes {strict = strict} (inl a) right lenient = passes strict (right a)
  where
    passes : (s : Bool) {t : Bool} → t ≡ true → in_strict s t ≡ true
    passes true e = e
    passes false e = refl

-- A reply that is granted has the bytes before the data.
echoed-head : (strict : Bool) (sub : Option ℕ) (r : List ℕ) (more : List (Check Fault)) → 0 < length r → first_of (echoing strict sub r ++ more) ≡ none
    → head sub ≤ length r
echoed-head strict none r more h e = omega arith
echoed-head strict (some s) r more h e = leb-true 2 (length r) (passed (leb 2 (length r)) _ _ e).0

pub granted-head : (strict : Bool) (a : Asked) (hush : Bool) (r : List ℕ) → 0 < length r → first_of (positive_checks strict a hush r) ≡ none → head a.sub ≤ length r
granted-head strict a hush r h e =
    let more = unless (in_strict strict (not hush)) (deviation 4) ∷ [] in
    let sid = in_strict strict (eqb (get_or r 0 0) (bit_or a.sid 0x40)) in
    echoed-head strict a.sub r more h (passed sid (first_of (echoing strict a.sub r ++ more)) (deviation 1) e).1

-- The checks of a positive whose SID is right: the sub-function's, and then whether it was to be suppressed.
pub granted : (strict : Bool) (a : Asked) (hush : Bool) (r : List ℕ) (echo : Option Fault) (quiet : Bool)
    → in_strict strict (eqb (get_or r 0 0) (bit_or a.sid 0x40)) ≡ true → echo ≡ first_of (echoing strict a.sub r) → quiet ≡ in_strict strict (not hush)
    → decided some echo (cond quiet none (some (deviation 4))) ≡ first_of (positive_checks strict a hush r)
granted strict a hush r echo quiet sid e q =
    rw (sid, e, q) (sym (first-append (echoing strict a.sub r) (unless (in_strict strict (not hush)) (deviation 4) ∷ [])))
