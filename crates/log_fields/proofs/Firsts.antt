-- Laws of the first field that is off, of any list of fields.
use Prim.Native.Nat.{ℕ, ◌≤◌}
use native.Mathlib.Omega.{arith}
use mathlib.Core.Bool.{Bool, true, false, cond, ◌&&◌, false≢true, and_assoc}
use mathlib.Core.List.{List, [], ◌∷◌, ◌++◌}
use mathlib.Core.Option.{Option, none, some}
use mathlib.Core.Path.{◌≡◌, refl, sym, ◌∙◌, ap, subst}
use lib.Dec.{leb}
use borrow.Author.Tests.{leb-true, le-leb}
use Rattle.rules.specs.Bytes.{every}
use Rattle.rules.specs.Conversations.{Every}
use Rattle.rules.proofs.Judging.{both}
use Rattle.log_fields.specs.Fields.{Field, at_most, inside, first}
use Rattle.log_fields.specs.Promises.{none?, UpTo, Right}

pub every_append : {A : Type 0} (p : A → Bool) (a b : List A) → every p (a ++ b) ≡ (every p a && every p b)
every_append p [] b = refl
every_append p (x ∷ a) b = ap (λ (t : Bool). p x && t) (every_append p a b) ∙ sym (and_assoc (p x) (every p a) (every p b))

pub all_append : {A : Type 0} (P : A → Type 0) (a b : List A) → Every P a → Every P b → Every P (a ++ b)
all_append P [] b p q = q
all_append P (x ∷ a) b p q = (p.0, all_append P a b p.1 q)

-- None is off where every one is inside.
pub none-off : (fs : List Field) → none? (first fs) ≡ every inside fs
none-off [] = refl
none-off (f ∷ fs) = go (inside f) (none-off fs)
  where
    go : (t : Bool) → none? (first fs) ≡ every inside fs → none? (cond t (first fs) (some f)) ≡ (t && every inside fs)
    go true e = e
    go false e = refl

-- Of a list behind another.
pub skips : (fs gs : List Field) → every inside fs ≡ true → first (fs ++ gs) ≡ first gs
skips [] gs e = refl
skips (f ∷ fs) gs e = let b = both (inside f) (every inside fs) e in rw b.0 (skips fs gs b.1)

pub stops : (fs gs : List Field) → every inside fs ≡ false → first (fs ++ gs) ≡ first fs
stops [] gs e = absurd (false≢true (sym e))
stops (f ∷ fs) gs e = go (inside f) (stops fs gs) e
  where
    go : (t : Bool) → (every inside fs ≡ false → first (fs ++ gs) ≡ first fs) → (t && every inside fs) ≡ false → cond t (first (fs ++ gs)) (some f) ≡ cond t (first fs) (some f)
    go true later e = later e
    go false later e = refl

below : (n : ℕ) (most : Option ℕ) → at_most n most ≡ true → UpTo n most
below n none e = tt
below n (some m) e = leb-true n m e

at-most : (n : ℕ) (most : Option ℕ) → UpTo n most → at_most n most ≡ true
at-most n none u = refl
at-most n (some m) u = le-leb n m u

-- The test in numbers.
pub right : (f : Field) → inside f ≡ true → Right f
right f e =
    let b = both (leb f.least f.found) (at_most f.found f.most) e in
    (leb-true f.least f.found b.0, below f.found f.most b.1)

pub inside_of : (f : Field) → Right f → inside f ≡ true
inside_of f r = rw (le-leb f.least f.found r.0) (at-most f.found f.most r.1)

pub rights : (fs : List Field) → every inside fs ≡ true → Every Right fs
rights [] e = tt
rights (f ∷ fs) e = let b = both (inside f) (every inside fs) e in (right f b.0, rights fs b.1)

pub insides : (fs : List Field) → Every Right fs → every inside fs ≡ true
insides [] r = refl
insides (f ∷ fs) r = rw (inside_of f r.0) (insides fs r.1)

-- Where the first that is off stands.
pub record Found (fs : List Field) (f : Field) : Type 0 where
  pub off : inside f ≡ false
  pub before : List Field
  pub behind : List Field
  pub among : fs ≡ before ++ f ∷ behind
  pub sound : every inside before ≡ true

pub found : (fs : List Field) (f : Field) → first fs ≡ some f → Found fs f
found [] f e = let z : ◌≡◌ {A = Bool} true false = ap none? e in absurd (false≢true (sym z))
found (g ∷ fs) f e = go (inside g) refl (found fs f) e
  where
    same : some g ≡ some f → g ≡ f
    same p = cc

    go : (t : Bool) → inside g ≡ t → (first fs ≡ some f → Found fs f) → cond t (first fs) (some g) ≡ some f → Found (g ∷ fs) f
    go true i later e =
        let r = later e in record {
          off = r.off;
          before = g ∷ r.before;
          behind = r.behind;
          among = ap (λ (l : List Field). g ∷ l) r.among;
          sound = rw i r.sound;
        }
    go false i later e =
        record {
          off = ap inside (sym (same e)) ∙ i;
          before = [];
          behind = fs;
          among = ap (λ (h : Field). h ∷ fs) (same e);
          sound = refl;
        }

-- What holds of every field holds of the first that is off.
pub of-first : (P : Field → Type 0) (fs : List Field) (f : Field) → Every P fs → first fs ≡ some f → P f
of-first P [] f p e = let z : ◌≡◌ {A = Bool} true false = ap none? e in absurd (false≢true (sym z))
of-first P (g ∷ fs) f p e = go (inside g) (of-first P fs f p.1) e
  where
    go : (t : Bool) → (first fs ≡ some f → P f) → cond t (first fs) (some g) ≡ some f → P f
    go true later e = later e
    go false later e = let s : g ≡ f = cc in subst P s p.0

-- What holds of each field where those before it are right.
abbrev pub Along : (Field → Type 0) → List Field → Type 0
Along P [] = Unit {0}
Along P (f ∷ fs) = P f × (Right f → Along P fs)

pub along-append : (P : Field → Type 0) (a b : List Field) → Along P a → Every P b → Along P (a ++ b)
along-append P [] [] p q = tt
along-append P [] (f ∷ b) p q = (q.0, λ r. along-append P [] b tt q.1)
along-append P (f ∷ a) b p q = (p.0, λ r. along-append P a b (p.1 r) q)

-- Those before the first that is off are right.
pub of-first-along : (P : Field → Type 0) (fs : List Field) (f : Field) → Along P fs → first fs ≡ some f → P f
of-first-along P [] f p e = let z : ◌≡◌ {A = Bool} true false = ap none? e in absurd (false≢true (sym z))
of-first-along P (g ∷ fs) f p e = go (inside g) refl (λ r. of-first-along P fs f (p.1 r)) e
  where
    go : (t : Bool) → inside g ≡ t → (Right g → first fs ≡ some f → P f) → cond t (first fs) (some g) ≡ some f → P f
    go true i later e = later (right g i) e
    go false i later e = let s : g ≡ f = cc in subst P s p.0

-- Two tests of which each passes where the other does are one.
pub alike : (a b : Bool) → (a ≡ true → b ≡ true) → (b ≡ true → a ≡ true) → a ≡ b
alike true b f g = sym (f refl)
alike false true f g = g refl
alike false false f g = refl
