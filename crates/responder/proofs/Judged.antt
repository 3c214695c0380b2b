-- What the rows of the services are judged to be, check by check.
use Prim.Native.Nat.{ℕ, ◌≤◌}
use mathlib.Core.Bool.{Bool, true, false, cond}
use mathlib.Core.Path.{◌≡◌, refl, ◌∙◌}
use mathlib.Core.List.{List, [], ◌∷◌, ◌++◌}
use borrow.Author.Tests.{le-leb}
use lib.Dec.{leb, eqb}
use lib.ListN.{length, get_or}
use Rattle.rules.specs.InOrder.{Check, unless}
use Rattle.rules.specs.Refusals.{between}
use Rattle.rules.proofs.Judging.{judge-under}
use Rattle.bench.specs.Responder as bench
use Rattle.bench.specs.Responder.{refuses, grants, keeps_silent, functional, simple, judged}
use Rattle.responder.specs.declared.Decision.{Decision}
use Rattle.responder.specs.declared.Decision.TheVariants.{Refuse, KeepSilent}
use Rattle.responder.specs.Decided.{sub_in, meaning, functional_of}

-- A service without a sub-function: the first check that fails, or the positive.
module _ (least : ℕ) (exact range : Bool) (head d : List ℕ) (n : ℕ) where
  abbrev verdict : bench.Decision
  verdict = judged (simple least exact range head d) n

  pub too_short : leb least n ≡ false → refuses 0x13 ≡ verdict
  too_short h = rw h refl

  pub inexact : exact ≡ false → refuses 0x13 ≡ verdict
  inexact h = go (leb least n)
    where
      go : (b : Bool) → refuses 0x13 ≡ cond b (cond exact (cond range (cond (leb (length (head ++ d)) 4095) (grants head d) (refuses 0x14)) (refuses 0x31)) (refuses 0x13)) (refuses 0x13)
      go true = rw h refl
      go false = refl

  pub out_of_range : leb least n ≡ true → exact ≡ true → range ≡ false → refuses 0x31 ≡ verdict
  out_of_range h k r = rw (h, k, r) refl

  pub too_long : leb least n ≡ true → exact ≡ true → range ≡ true → leb (length (head ++ d)) 4095 ≡ false → refuses 0x14 ≡ verdict
  too_long h k r s = rw (h, k, r, s) refl

  pub granted : leb least n ≡ true → exact ≡ true → range ≡ true → leb (length (head ++ d)) 4095 ≡ true → grants head d ≡ verdict
  granted h k r s = rw (h, k, r, s) refl

-- And one with a sub-function, whose positive always fits.
module _ (l q : List ℕ) (least most n : ℕ) (positive : Decision) where
  abbrev b : ℕ
  b = get_or q 1 0

  abbrev tests : List (Check ℕ)
  tests = unless (leb 2 (length q)) 0x13 ∷ unless (between least most (sub_in q)) 0x12 ∷ unless (eqb (length q) n) 0x13 ∷ []

  hushed : (t : Bool) (head d : List ℕ) → meaning l q positive ≡ grants head d → meaning l q (cond t KeepSilent positive) ≡ cond t keeps_silent (grants head d)
  hushed true head d e = refl
  hushed false head d e = e

  pub functional-means : (sub : Bool) (head d : List ℕ) → meaning l q positive ≡ grants head d → between least most (sub_in q) ≡ sub → length (head ++ d) ≤ 4095
      → meaning l q (functional_of q least most n positive) ≡ judged (functional b sub (eqb (length q) n) head d) (length q)
  unfolding functional_of
  functional-means sub head d e same short =
      let fits = le-leb (length (head ++ d)) 4095 short in
      let inner : meaning l q (cond (leb 128 b) KeepSilent positive) ≡ cond (leb (length (head ++ d)) 4095) (cond (leb 128 b) keeps_silent (grants head d)) (refuses 0x14) =
      hushed (leb 128 b) head d e ∙ rw fits refl
      in
      judge-under (meaning l q) Refuse tests (cond (leb 128 b) KeepSilent positive) ∙
      (λ j. cond (leb 2 (length q)) (cond (same j) (cond (eqb (length q) n) (inner j) (refuses 0x13)) (refuses 0x12)) (refuses 0x13))
