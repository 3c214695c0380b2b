-- Refusals judged by the number of the first, and what it says that an answer is none, or one.
use Prim.Native.Nat.{ℕ}
use mathlib.Core.Bool.{Bool, true, false, cond}
use mathlib.Core.List.{List, [], ◌∷◌, ◌++◌}
use mathlib.Core.Path.{◌≡◌, refl}
use native.Mathlib.Omega.{arith}
use lib.Dec.{eqb}
use Rattle.std.specs.Prelude.{Ok, Err}
use Rattle.rules.specs.InOrder.{Check, judge}
use Rattle.requests.specs.Prepared.{first}

-- No refusal has the number 0.
abbrev pub NonZero : List (Check ℕ) → Type 0
NonZero [] = Unit {0}
NonZero (c ∷ cs) = (eqb c.fault 0 ≡ false) × NonZero cs

pub non-zero-append : (cs ds : List (Check ℕ)) → NonZero cs → NonZero ds → NonZero (cs ++ ds)
non-zero-append [] ds n m = m
non-zero-append (c ∷ cs) ds n m = (n.0, non-zero-append cs ds n.1 m)

-- Such checks are judged by the number of the first that fails.
pub by_number : {B : Type 0} (wrong : ℕ → B) (cs : List (Check ℕ)) (x : B) → NonZero cs → judge wrong cs x ≡ cond (eqb (first cs) 0) x (wrong (first cs))
by_number wrong [] x n = refl
by_number wrong (c ∷ cs) x n = go c.test (by_number wrong cs x n.1)
  where
    go : (t : Bool) → judge wrong cs x ≡ cond (eqb (first cs) 0) x (wrong (first cs))
        → cond t (judge wrong cs x) (wrong c.fault) ≡ cond (eqb (cond t (first cs) c.fault) 0) x (wrong (cond t (first cs) c.fault))
    go true rest = rest
    go false rest = rw n.0

-- An answer is the one that no check refuses, and then none refuses any other.
pub ok-passes : {A B : Type 0} (cs : List (Check ℕ)) {x y : A} → Ok y ≡ judge Err cs (Ok x) → (y ≡ x) × ((wrong : ℕ → B) (z : B) → judge wrong cs z ≡ z)
ok-passes [] e = (cc, λ wrong z. refl)
ok-passes {A} {B} (c ∷ cs) {x} {y} e = go c.test (λ k. ok-passes cs k) e
  where
    go : (t : Bool) → (Ok y ≡ judge Err cs (Ok x) → (y ≡ x) × ((wrong : ℕ → B) (z : B) → judge wrong cs z ≡ z)) → Ok y ≡ cond t (judge Err cs (Ok x)) (Err c.fault)
        → (y ≡ x) × ((wrong : ℕ → B) (z : B) → cond t (judge wrong cs z) (wrong c.fault) ≡ z)
    go true rest e' = rest e'
    go false rest e' = absurd (let z : ◌≡◌ {A = ℕ} 0 1 = cc in omega arith)

-- A refusal is the first, and then it refuses any other.
pub err-stops : {A B : Type 0} (cs : List (Check ℕ)) (x : A) {n : ℕ} → Err n ≡ judge Err cs (Ok x) → (wrong : ℕ → B) (z : B) → judge wrong cs z ≡ wrong n
err-stops [] x e wrong z = absurd (let y : ◌≡◌ {A = ℕ} 0 1 = cc in omega arith)
err-stops {A} (c ∷ cs) x {n} e wrong z = go c.test (λ k. err-stops cs x k wrong z) e
  where
    go : (t : Bool) → (Err n ≡ judge Err cs (Ok x) → judge wrong cs z ≡ wrong n) → Err n ≡ cond t (judge Err cs (Ok x)) (Err c.fault)
        → cond t (judge wrong cs z) (wrong c.fault) ≡ wrong n
    go true rest e' = rest e'
    go false rest e' = let same : n ≡ c.fault = cc in rw same
