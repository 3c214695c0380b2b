-- What is handed to the engine, whatever it be.
use Prim.Native.Nat.{ℕ, suc, ◌≤◌}
use mathlib.Core.Bool.{Bool, true, false, cond}
use mathlib.Core.Path.{◌≡◌, refl, sym, ◌∙◌, ap, subst, subst⁻¹}
use mathlib.Core.List.{List, [], ◌∷◌}
use mathlib.Core.Option.{Option, none, some}
use lib.Dec.{leb}
use lib.ListN.{length}
use borrow.Author.Tests.{leb-true}
use Rattle.rules.specs.Answers.{Answer}
use Rattle.rules.specs.Events.{Event, time_of}
use Rattle.rules.specs.Exchange.{Asked, State, start, Turn, on, ends, turn}
use Rattle.stepwise.specs.Any.{taken, events_among, Any}
use Rattle.stepwise.specs.Driven.{Merged, done, takes, ticks, InOrder, clock, Valid, Means}
use Rattle.stepwise.specs.Engine.{Input, event, tick, time_in, Engine, waiting, decided, Stepped, stepped, past, late, follow, accepts, fitting, step, run}
use Rattle.stepwise.proofs.Driven.{OneMore, one_more, drives, refused, none≢some}

ticks_among : List Input → List ℕ
ticks_among [] = []
ticks_among (event e ∷ is) = ticks_among is
ticks_among (tick t ∷ is) = t ∷ ticks_among is

among : (is : List Input) → Merged (events_among is) (ticks_among is) is
unfolding ticks_among
among [] = done
among (event e ∷ is) = takes (among is)
among (tick t ∷ is) = ticks (among is)

module _ (fits : ℕ → Event → Bool) (strict : Bool) (a : Asked) (overall : Option ℕ) where
  abbrev steps : Engine → Input → Stepped
  steps = step fits strict a overall

  abbrev goes : Engine → List Input → Engine
  goes = run fits strict a overall

  abbrev took : Engine → List Input → List Input
  took = taken fits strict a overall

  -- A step is taken, or refused.
  took_it : (z : Engine) (i : Input) (is : List Input) → (steps z i).refusal ≡ none → took z (i ∷ is) ≡ i ∷ took (steps z i).engine is
  unfolding taken
  took_it z i is h = rw (taken, h) refl

  left_it : (z : Engine) (i : Input) (is : List Input) (n : ℕ) → (steps z i).refusal ≡ some n → took z (i ∷ is) ≡ took z is
  unfolding taken
  left_it z i is n h = rw (taken, h) refl

  pub run-taken : (z : Engine) (is : List Input) → goes z is ≡ goes z (took z is)
  unfolding run taken
  run-taken z [] = refl
  run-taken z (i ∷ is) = go (steps z i).refusal refl (run-taken (steps z i).engine is) (run-taken z is)
    where
      go : (r : Option ℕ) → (steps z i).refusal ≡ r → goes (steps z i).engine is ≡ goes (steps z i).engine (took (steps z i).engine is) → goes z is ≡ goes z (took z is)
          → goes z (i ∷ is) ≡ goes z (took z (i ∷ is))
      go none h more same = more ∙ sym (ap (goes z) (took_it z i is h))
      go (some n) h more same = ap (λ (y : Engine). goes y is) (refused fits strict a overall z i n h) ∙ same ∙ sym (ap (goes z) (left_it z i is n h))

  -- Behind a decision none is taken.
  took-decided : (x : Answer) (is : List Input) → took (decided x) is ≡ []
  unfolding taken step
  took-decided x [] = refl
  took-decided x (i ∷ is) = took-decided x is

  -- What a step that waits shows when it is taken.
  record Fine (last : ℕ) (s : State) (i : Input) : Type 0 where
    fit : fitting fits s i ≡ true
    order : last ≤ time_in i
    becomes : (steps (waiting last s) i).engine ≡ accepts strict a overall s i

  fine : (last : ℕ) (s : State) (i : Input) → (steps (waiting last s) i).refusal ≡ none → Fine last s i
  unfolding step
  fine last s i h = go (fitting fits s i) (leb last (time_in i)) refl refl h
    where
      go : (b d : Bool) → fitting fits s i ≡ b → leb last (time_in i) ≡ d
          → (cond b (cond d (stepped none (accepts strict a overall s i)) (stepped (some 20) (waiting last s))) (stepped (some 10) (waiting last s))).refusal ≡ none → Fine last s i
      go true true e f h = record { fit = e; order = leb-true last (time_in i) f; becomes = rw (e, f) refl }
      go true false e f h = absurd (none≢some (sym h))
      go false d e f h = absurd (none≢some (sym h))

  abbrev Good : ℕ → ℕ → List Input → Type 0
  Good t n is = InOrder t is × Valid fits n (events_among is)

  pub good : (is : List Input) (t : ℕ) (s : State) → Good t (length s.read) (took (waiting t s) is)
  unfolding taken
  good [] t s = (tt, tt)
  good (i ∷ is) t s = go (steps (waiting t s) i).refusal refl (good is t s) (good is)
    where
      -- What is taken behind what has decided, or waits on.
      from-turn : (e : Event) (z : Turn) → OneMore s z → ((u : ℕ) (s' : State) → Good u (length s'.read) (took (waiting u s') is))
          → Good (time_of e) (suc (length s.read)) (took (follow overall (time_of e) z) is)
      from-turn e (on s') n more = subst (λ (k : ℕ). Good (time_of e) k (took (waiting (time_of e) s') is)) n (more (time_of e) s')
      from-turn e (ends x) n more = subst⁻¹ (Good (time_of e) (suc (length s.read))) (took-decided _ is) (tt, tt)

      by-event : (e : Event) (b : Bool) → ((u : ℕ) (s' : State) → Good u (length s'.read) (took (waiting u s') is))
          → Good (time_of e) (suc (length s.read)) (took (cond b (late overall s) (follow overall (time_of e) (turn strict a s e))) is)
      by-event e true more = subst⁻¹ (Good (time_of e) (suc (length s.read))) (took-decided _ is) (tt, tt)
      by-event e false more = from-turn e (turn strict a s e) (one_more strict a s e) more

      by-tick : (u : ℕ) (b : Bool) → Good u (length s.read) (took (waiting u s) is) → Good u (length s.read) (took (cond b (late overall s) (waiting u s)) is)
      by-tick u true more = subst⁻¹ (Good u (length s.read)) (took-decided _ is) (tt, tt)
      by-tick u false more = more

      front : (i : Input) → Fine t s i → ((u : ℕ) (s' : State) → Good u (length s'.read) (took (waiting u s') is)) → Good t (length s.read) (i ∷ took (accepts strict a overall s i) is)
      front (event e) f more = let g = by-event e (past overall s (time_of e)) more in ((f.order, g.0), (f.fit, g.1))
      front (tick u) f more = let g = by-tick u (past overall s u) (more u s) in ((f.order, g.0), g.1)

      go : (r : Option ℕ) → (steps (waiting t s) i).refusal ≡ r → Good t (length s.read) (took (waiting t s) is)
          → ((u : ℕ) (s' : State) → Good u (length s'.read) (took (waiting u s') is)) → Good t (length s.read) (took (waiting t s) (i ∷ is))
      go none h same more =
          let f = fine t s i h in
          subst⁻¹ (Good t (length s.read)) (took_it (waiting t s) i is h ∙ ap (λ (z : Engine). i ∷ took z is) f.becomes) (front i f more)
      go (some n) h same more = subst⁻¹ (Good t (length s.read)) (left_it (waiting t s) i is n h) same

pub any : Any
any fits strict a overall is =
    let z = waiting 0 (start a) in
    let js = taken fits strict a overall z is in
    let same = run-taken fits strict a overall z is in
    let g = good fits strict a overall is 0 (start a) in
    (same, subst⁻¹ (Means strict a overall (start a) (events_among js) (clock 0 js)) same (drives fits strict a overall (among js) 0 (start a) g.0 g.1))
