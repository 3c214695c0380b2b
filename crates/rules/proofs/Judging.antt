-- Laws of `judge` and `cond`: an answer that no fault gives comes of checks that all pass.
use mathlib.Core.Bool.{Bool, true, false, cond, ◌&&◌}
use mathlib.Core.Path.{◌≡◌, refl, ap, ◌∙◌}
use mathlib.Core.Logic.{◌⊎◌, inl, inr}
use mathlib.Core.List.{List, [], ◌∷◌, ◌++◌}
use Rattle.rules.specs.InOrder.{Check, judge}
use Rattle.rules.specs.Conversations.{Every}
use Rattle.rules.specs.Logs.{all}

abbrev pub Pass : {A : Type 0} → List (Check A) → Type 0
Pass [] = Unit {0}
Pass (c ∷ cs) = (c.test ≡ true) × Pass cs

pub by-test : {A : Type 0} (b : Bool) {x y z : A} → cond b x y ≡ z → ((b ≡ true) × (x ≡ z)) ⊎ ((b ≡ false) × (y ≡ z))
by-test true e = inl (refl, e)
by-test false e = inr (refl, e)

pub both : (a b : Bool) → (a && b) ≡ true → (a ≡ true) × (b ≡ true)
both true b e = (refl, e)
both false b e = let z : false ≡ true = e in (z, absurd (mathlib.Core.Bool.false≢true z))

-- Tests that all pass.
abbrev pub Trues : List Bool → Type 0
Trues [] = Unit {0}
Trues (b ∷ bs) = (b ≡ true) × Trues bs

pub trues : (bs : List Bool) → all bs ≡ true → Trues bs
trues [] h = tt
trues (b ∷ bs) h = let k = both b (all bs) h in (k.0, trues bs k.1)

pub trues-back : (bs : List Bool) → Trues bs → all bs ≡ true
trues-back [] h = refl
trues-back (b ∷ bs) h = rw h.0 (trues-back bs h.1)

pub judge-pass : {A B : Type 0} (wrong : A → B) (cs : List (Check A)) (x : B) → Pass cs → judge wrong cs x ≡ x
judge-pass wrong [] x p = refl
judge-pass wrong (c ∷ cs) x p = rw p.0 (judge-pass wrong cs x p.1)

pub judge-inv : {A B : Type 0} (wrong : A → B) (cs : List (Check A)) {x y : B} → ((f : A) → wrong f ≡ y → ⊥) → judge wrong cs x ≡ y → Pass cs × (x ≡ y)
judge-inv wrong [] n e = (tt, e)
judge-inv wrong (c ∷ cs) n e =
    elim (by-test c.test e) [
      | inl h ↦ (let r = judge-inv wrong cs n h.1 in ((h.0, r.0), r.1))
      | inr h ↦ absurd (n c.fault h.1)
    ]

-- What holds of every fault, and of what all checks lead to, holds of the judgement.
pub judge-ind : {A B : Type 0} (P : B → Type 0) (wrong : A → B) (cs : List (Check A)) (x : B) → ((f : A) → P (wrong f)) → (Pass cs → P x) → P (judge wrong cs x)
judge-ind P wrong [] x f g = g tt
judge-ind P wrong (c ∷ cs) x f g = go c.test refl (λ e. judge-ind P wrong cs x f (λ p. g (e, p)))
  where
    go : (b : Bool) → c.test ≡ b → (c.test ≡ true → P (judge wrong cs x)) → P (cond b (judge wrong cs x) (wrong c.fault))
    go true e h = h e
    go false e h = f c.fault

-- The same, where something is known of each check's fault.
pub judge-faults : {A B : Type 0} (Q : A → Type 0) (P : B → Type 0) (wrong : A → B) (cs : List (Check A)) (x : B) → Every (λ c. Q c.fault) cs
    → ((f : A) → Q f → P (wrong f)) → (Pass cs → P x) → P (judge wrong cs x)
judge-faults Q P wrong [] x q f g = g tt
judge-faults Q P wrong (c ∷ cs) x q f g = go c.test refl (λ e. judge-faults Q P wrong cs x q.1 f (λ p. g (e, p)))
  where
    go : (b : Bool) → c.test ≡ b → (c.test ≡ true → P (judge wrong cs x)) → P (cond b (judge wrong cs x) (wrong c.fault))
    go true e h = h e
    go false e h = f c.fault q.0

pub pass-append : {A : Type 0} (cs ds : List (Check A)) → Pass (cs ++ ds) → Pass cs × Pass ds
pass-append [] ds p = (tt, p)
pass-append (c ∷ cs) ds p = let r = pass-append cs ds p.1 in ((p.0, r.0), r.1)

pub append-pass : {A : Type 0} (cs ds : List (Check A)) → Pass cs → Pass ds → Pass (cs ++ ds)
append-pass [] ds p q = q
append-pass (c ∷ cs) ds p q = (p.0, append-pass cs ds p.1 q)

-- Joined checks, and a function over what is judged.
pub judge-append : {A B : Type 0} (wrong : A → B) (cs ds : List (Check A)) (x : B) → judge wrong (cs ++ ds) x ≡ judge wrong cs (judge wrong ds x)
judge-append wrong [] ds x = refl
judge-append wrong (c ∷ cs) ds x = rw (judge-append wrong cs ds x)

cond-under : {B C : Type 0} (f : B → C) (t : Bool) (x y : B) → f (cond t x y) ≡ cond t (f x) (f y)
cond-under f true x y = refl
cond-under f false x y = refl

pub judge-under : {A B C : Type 0} (f : B → C) (wrong : A → B) (cs : List (Check A)) (x : B) → f (judge wrong cs x) ≡ judge (λ a. f (wrong a)) cs (f x)
judge-under f wrong [] x = refl
judge-under {C = C} f wrong (c ∷ cs) x =
    cond-under f c.test (judge wrong cs x) (wrong c.fault) ∙
    ap (λ (y : C). cond c.test y (f (wrong c.fault))) (judge-under f wrong cs x)
