-- Check lists under strict beside the same lists under lenient: check by check, lenient is milder.
use mathlib.Core.Bool.{Bool, true, false, cond, ◌&&◌}
use mathlib.Core.Path.{◌≡◌, refl, subst}
use mathlib.Core.Logic.{◌⊎◌, inl, inr}
use mathlib.Core.List.{List, [], ◌∷◌, ◌++◌}
use mathlib.Core.Option.{Option}
use Prim.Native.Nat.{ℕ}
use Rattle.rules.specs.Answers.{Fault, deviation, deviation8, bad_length, overflow, length_error}
use Rattle.rules.specs.InOrder.{Check, unless, judge}
use Rattle.rules.specs.Lenient.{Deviation}

-- The strict one, x, deviates (D), or the two are equal.
abbrev pub DeviatesOr : {B : Type 0} → (B → Type 0) → B → B → Type 0
DeviatesOr D x y = D x ⊎ (x ≡ y)

abbrev pub Short : Fault → Type 0
Short (deviation n) = ⊥
Short (deviation8 least most) = ⊥
Short bad_length = Unit {0}
Short overflow = ⊥

-- What a mode may say: strict no plain length error, lenient no deviation.
abbrev pub Says : Bool → Fault → Type 0
Says true f = ¬ Short f
Says false f = ¬ Deviation f

-- A strict check and the lenient one in its place: the strict fault is a deviation, and what passes strict passes lenient; or the two are one.
pub data Milder (c d : Check Fault) : Type 0 where
  deviating : Deviation c.fault → (c.test ≡ true → d.test ≡ true) → (d.test ≡ true) ⊎ Says false d.fault → Milder c d
  alike : c ≡ d → Says true c.fault → Says false d.fault → Milder c d

abbrev pub Mild : List (Check Fault) → List (Check Fault) → Type 0
Mild [] [] = Unit {0}
Mild [] (d ∷ ds) = ⊥
Mild (c ∷ cs) [] = ⊥
Mild (c ∷ cs) (d ∷ ds) = Milder c d × Mild cs ds

pub mild-append : (cs ds cs' ds' : List (Check Fault)) → Mild cs ds → Mild cs' ds' → Mild (cs ++ cs') (ds ++ ds')
mild-append [] [] cs' ds' m n = n
mild-append [] (d ∷ ds) cs' ds' m n = absurd m
mild-append (c ∷ cs) [] cs' ds' m n = absurd m
mild-append (c ∷ cs) (d ∷ ds) cs' ds' m n = (m.0, mild-append cs ds cs' ds' m.1 n)

-- One list judged under strict and under lenient, whatever the checks stand before.
module _ {B : Type 0} (wrong : Fault → B) (D : B → Type 0) (deviates : (f : Fault) → Deviation f → D (wrong f)) where
  lists-mild : (cs ds : List (Check Fault)) (x y : B) → Mild cs ds → DeviatesOr D x y → DeviatesOr D (judge wrong cs x) (judge wrong ds y)
  lists-mild [] [] x y m h = h
  lists-mild [] (d ∷ ds) x y m h = absurd m
  lists-mild (c ∷ cs) [] x y m h = absurd m
  lists-mild (c ∷ cs) (d ∷ ds) x y m h = go m.0 (lists-mild cs ds x y m.1 h)
    where
      apart : (b : Bool) → c.test ≡ b → Deviation c.fault → (c.test ≡ true → d.test ≡ true) → DeviatesOr D (judge wrong cs x) (judge wrong ds y)
          → DeviatesOr D (cond b (judge wrong cs x) (wrong c.fault)) (cond d.test (judge wrong ds y) (wrong d.fault))
      apart true e v p more = rw (p e) more
      apart false e v p more = inl (deviates c.fault v)

      together : (b : Bool) (f : Fault) → DeviatesOr D (judge wrong cs x) (judge wrong ds y) → DeviatesOr D (cond b (judge wrong cs x) (wrong f)) (cond b (judge wrong ds y) (wrong f))
      together true f more = more
      together false f more = inr refl

      go : Milder c d → DeviatesOr D (judge wrong cs x) (judge wrong ds y)
          → DeviatesOr D (cond c.test (judge wrong cs x) (wrong c.fault)) (cond d.test (judge wrong ds y) (wrong d.fault))
      go (deviating v p s) more = apart c.test refl v p more
      go (alike e s t) more =
          subst (λ (z : Check Fault). DeviatesOr D (cond c.test (judge wrong cs x) (wrong c.fault)) (cond z.test (judge wrong ds y) (wrong z.fault))) e
          (together c.test c.fault more)

  pub judge-mild : (list : Bool → List (Check Fault)) (x y : B) → Mild (list true) (list false) → DeviatesOr D x y → DeviatesOr D (judge wrong (list true) x) (judge wrong (list false) y)
  judge-mild list = lists-mild (list true) (list false)

-- A mode's list says what the mode may say.
abbrev Fits : Bool → List (Check Fault) → Type 0
Fits strict [] = Unit {0}
Fits strict (c ∷ cs) = ((c.test ≡ true) ⊎ Says strict c.fault) × Fits strict cs

deviation-long : (f : Fault) → Deviation f → Says true f
deviation-long (deviation n) d s = s
deviation-long (deviation8 least most) d s = s
deviation-long bad_length d s = d
deviation-long overflow d s = s

strict-fits : (cs ds : List (Check Fault)) → Mild cs ds → Fits true cs
strict-fits [] [] m = tt
strict-fits [] (d ∷ ds) m = tt
strict-fits (c ∷ cs) [] m = absurd m
strict-fits (c ∷ cs) (d ∷ ds) m = (go m.0, strict-fits cs ds m.1)
  where
    go : Milder c d → (c.test ≡ true) ⊎ Says true c.fault
    go (deviating v p s) = inr (deviation-long c.fault v)
    go (alike e s t) = inr s

lenient-fits : (cs ds : List (Check Fault)) → Mild cs ds → Fits false ds
lenient-fits [] [] m = tt
lenient-fits [] (d ∷ ds) m = absurd m
lenient-fits (c ∷ cs) [] m = tt
lenient-fits (c ∷ cs) (d ∷ ds) m = (go m.0, lenient-fits cs ds m.1)
  where
    go : Milder c d → (d.test ≡ true) ⊎ Says false d.fault
    go (deviating v p s) = s
    go (alike e s t) = inr t

module _ {B : Type 0} (strict : Bool) (wrong : Fault → B) (P : B → Type 0) (says : (f : Fault) → Says strict f → P (wrong f)) where
  judge-fits : (cs : List (Check Fault)) (x : B) → Fits strict cs → P x → P (judge wrong cs x)
  judge-fits [] x f h = h
  judge-fits (c ∷ cs) x f h = go f.0 (judge-fits cs x f.1 h)
    where
      by_bool : (b : Bool) → Says strict c.fault → P (judge wrong cs x) → P (cond b (judge wrong cs x) (wrong c.fault))
      by_bool true s more = more
      by_bool false s more = says c.fault s

      go : (c.test ≡ true) ⊎ Says strict c.fault → P (judge wrong cs x) → P (cond c.test (judge wrong cs x) (wrong c.fault))
      go (inl e) more = rw e more
      go (inr s) more = by_bool c.test s more

  pub judge-says : (list : Bool → List (Check Fault)) (x : B) → Mild (list true) (list false) → P x → P (judge wrong (list strict) x)
  judge-says list x m h = judge-fits (list strict) x (go strict) h
    where
      go : (b : Bool) → Fits b (list b)
      go true = strict-fits (list true) (list false) m
      go false = lenient-fits (list true) (list false) m

-- The kinds of check that there are. One of strict alone:
pub strict-only : (t : Bool) (f g : Fault) → Deviation f → Milder (unless t f) (unless true g)
strict-only t f g v = deviating v (λ e. refl) (inl refl)

-- A length, in both modes, and in strict perhaps one more:
pub length_both : (t : Bool) (least : ℕ) (most : Option ℕ) → Milder (unless t (length_error true least most)) (unless t (length_error false least most))
length_both t least most = deviating tt (λ e. e) (inr (λ v. v))

pub length_more : (t u : Bool) (least : ℕ) (most : Option ℕ) → Milder (unless (t && u) (length_error true least most)) (unless (t && true) (length_error false least most))
length_more true u least most = deviating tt (λ e. refl) (inr (λ v. v))
length_more false u least most = deviating tt (λ e. e) (inr (λ v. v))

-- "up to 2^64 - 1, else overflow", in both.
pub overflow-both : (t : Bool) → Milder (unless t overflow) (unless t overflow)
overflow-both t = alike refl (λ s. s) (λ v. v)
