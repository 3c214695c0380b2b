-- Tests in a list, one by one; and checks whose faults are known.
use Prim.Native.Nat.{ℕ}
use mathlib.Core.Bool.{Bool, true, false, cond}
use mathlib.Core.Path.{◌≡◌, refl}
use mathlib.Core.List.{List, [], ◌∷◌}
use Rattle.rules.specs.Bytes.{every}
use Rattle.rules.specs.InOrder.{Check, judge}
use Rattle.rules.specs.Logs.{all}
use Rattle.rules.proofs.Judging.{Pass, both}

abbrev pub Holding : List Bool → Type 0
Holding [] = Unit {0}
Holding (b ∷ bs) = (b ≡ true) × Holding bs

pub all_hold : (bs : List Bool) → all bs ≡ true → Holding bs
all_hold [] h = tt
all_hold (b ∷ bs) h = let k = both b (all bs) h in (k.0, all_hold bs k.1)

pub hold-all : (bs : List Bool) → Holding bs → all bs ≡ true
hold-all [] h = refl
hold-all (b ∷ bs) h = rw (h.0, hold-all bs h.1) refl

-- No test fails: they all pass.
pub every-pass : {A : Type 0} (cs : List (Check A)) → every (λ k. k.test) cs ≡ true → Pass cs
every-pass [] h = tt
every-pass (c ∷ cs) h = let k = both c.test (every (λ x. x.test) cs) h in (k.0, every-pass cs k.1)

pub pass-every : {A : Type 0} (cs : List (Check A)) → Pass cs → every (λ k. k.test) cs ≡ true
pass-every [] p = refl
pass-every (c ∷ cs) p = rw (p.0, pass-every cs p.1) refl

-- What holds of each fault that passes a test, as all of these do, and of what all checks lead to, holds of the judgement.
pub judge-tested : {A B : Type 0} (test : A → Bool) (P : B → Type 0) (wrong : A → B) (cs : List (Check A)) (x : B) → every (λ k. test k.fault) cs ≡ true
    → ((f : A) → test f ≡ true → P (wrong f)) → (Pass cs → P x) → P (judge wrong cs x)
judge-tested test P wrong [] x e f g = g tt
judge-tested test P wrong (c ∷ cs) x e f g =
    let k = both (test c.fault) (every (λ y. test y.fault) cs) e in
    go c.test refl k.0 (λ h. judge-tested test P wrong cs x k.1 f (λ p. g (h, p)))
  where
    go : (b : Bool) → c.test ≡ b → test c.fault ≡ true → (c.test ≡ true → P (judge wrong cs x)) → P (cond b (judge wrong cs x) (wrong c.fault))
    go true e k h = h e
    go false e k h = f c.fault k
