-- The engine driven with events and ticks, against the list engine.
use Prim.Native.Nat.{ℕ, suc, ◌≤◌, ◌<◌}
use native.Mathlib.Omega.{arith}
use mathlib.Core.Bool.{Bool, true, false, cond, ◌||◌}
use mathlib.Core.Path.{◌≡◌, refl, sym, ◌∙◌, ap, subst, subst⁻¹}
use mathlib.Core.List.{List, [], ◌∷◌, ◌++◌, append-nil}
use mathlib.Core.Option.{Option, none, some}
use lib.Dec.{leb, ltb}
use lib.ListN.{length}
use borrow.Author.Tests.{ltb-false, lt-ltb, le-leb}
use Rattle.rules.specs.After.{after}
use Rattle.rules.specs.Answers.{Answer, refusal, nowhere, timeout, answer}
use Rattle.rules.specs.Calls.{Call, request_of}
use Rattle.rules.specs.InOrder.{Check, unless, judge}
use Rattle.rules.specs.Client.{Result, asked, events_in, refuse, answered, call}
use Rattle.rules.specs.Counts.{Rising}
use Rattle.rules.specs.Events.{Event, reply, idle, ended, failed, time_of, up_to, within_limits}
use Rattle.rules.specs.Exchange.{Asked, Step, pending, settles, look, State, start, allows, notes, hears, Turn, on, ends, turn, silence, settle, counted, under, exchange}
use Rattle.rules.specs.Refusals.{arguments}
use Rattle.rules.specs.Settings.{Setting, Lent}
use Rattle.rules.proofs.Judging.{judge-ind}
use Rattle.rules.proofs.Turns.{settle-on, settle-ends}
use Rattle.stepwise.specs.Driven.{Merged, done, takes, ticks, InOrder, clock, Valid, Due, turns, Means, Driven}
use Rattle.stepwise.specs.Engine.{Input, event, tick, time_in, Engine, waiting, decided, decision, Stepped, stepped, beyond, past, late, follow, accepts, fitting, step, run, begin}
use Rattle.stepwise.proofs.Late.{too-late}

rising-less : (es : List Event) (t u : ℕ) → t ≤ u → Rising u es → Rising t es
rising-less [] t u h r = tt
rising-less (e ∷ es) t u h r = (omega arith, r.1)

merged-rising : {es : List Event} {ts : List ℕ} {is : List Input} → Merged es ts is → (t : ℕ) → InOrder t is → (rest : List Event) → Rising (clock t is) rest
    → Rising t (es ++ rest)
merged-rising done t o rest r = r
merged-rising (takes {e = e} m) t o rest r = (o.0, merged-rising m (time_of e) o.1 rest r)
merged-rising (ticks {t = u} {es = es} m) t o rest r = rising-less (es ++ rest) t u o.0 (merged-rising m u o.1 rest r)

-- A turn that reads on has read one event.
abbrev pub OneMore : State → Turn → Type 0
OneMore s (on s') = length s'.read ≡ suc (length s.read)
OneMore s (ends x) = Unit {0}

pub one_more : (strict : Bool) (a : Asked) (s : State) (e : Event) → OneMore s (turn strict a s e)
one_more strict a s (reply t p) = by-look (look strict a s.hush p)
  where
    heard : (b : Bool) → OneMore s (notes a s t p b)
    heard true = refl
    heard false = tt

    by-look : (z : Step) → OneMore s (hears a s t p z)
    by-look pending = heard (allows a.limit (length s.notices))
    by-look (settles o) = tt
one_more strict a s (idle t) = refl
one_more strict a s (ended t) = tt
one_more strict a s (failed t n) = tt

or-true : (b : Bool) → (b || true) ≡ true
or-true true = refl
or-true false = refl

pub none≢some : {n : ℕ} → ◌≡◌ {A = Option ℕ} none (some n) → ⊥
none≢some e = let z : ◌≡◌ {A = ℕ} 0 1 = cc in omega arith

module _ (fits : ℕ → Event → Bool) (strict : Bool) (a : Asked) (overall : Option ℕ) where
  abbrev goes : Engine → List Input → Engine
  goes = run fits strict a overall

  abbrev Meant : State → List Event → ℕ → Engine → Type 0
  Meant = Means strict a overall

  step-taken : (last : ℕ) (s : State) (i : Input) → fitting fits s i ≡ true → last ≤ time_in i
      → step fits strict a overall (waiting last s) i ≡ stepped none (accepts strict a overall s i)
  unfolding step
  step-taken last s i h k = rw (h, le-leb last (time_in i) k) refl

  run-takes : (last : ℕ) (s : State) (i : Input) (is : List Input) → fitting fits s i ≡ true → last ≤ time_in i
      → goes (waiting last s) (i ∷ is) ≡ goes (accepts strict a overall s i) is
  unfolding run
  run-takes last s i is h k = ap (λ (z : Stepped). goes z.engine is) (step-taken last s i h k)

  run-decided : (x : Answer) (is : List Input) → goes (decided x) is ≡ decided x
  unfolding run step
  run-decided x [] = refl
  run-decided x (i ∷ is) = run-decided x is

  pub run-append : (e : Engine) (is js : List Input) → goes e (is ++ js) ≡ goes (goes e is) js
  unfolding run
  run-append e [] js = refl
  run-append e (i ∷ is) js = run-append (step fits strict a overall e i).engine is js

  -- What is decided once it is too late.
  decides-late : (s : State) (u t : ℕ) (es : List Event) (is : List Input) → past overall s u ≡ true → ((rest : List Event) → Rising t rest → Rising u (es ++ rest))
      → Meant s es t (goes (late overall s) is)
  decides-late s u t es is h up =
      subst⁻¹ (Meant s es t) (run-decided (under overall (silence s)) is) (λ rest r. too-late strict a overall s u (es ++ rest) h (up rest r))

  -- One event more in front.
  behind : (s s' : State) (e : Event) (es : List Event) (t : ℕ) → time_of e ≤ s.deadline → turn strict a s e ≡ on s' → (z : Engine) → Meant s' es t z → Meant s (e ∷ es) t z
  unfolding turns
  behind s s' e es t h k (waiting last s'') m = (m.0, rw (turns, k) m.1, λ rest. settle-on strict a s s' e (es ++ rest) h k ∙ m.2 rest)
  behind s s' e es t h k (decided x) m = λ rest r. ap (under overall) (settle-on strict a s s' e (es ++ rest) h k) ∙ m rest r

  in-time : (s : State) (t : ℕ) → past overall s t ≡ false → t ≤ s.deadline
  in-time s t h = go (ltb s.deadline t) refl h
    where
      go : (b : Bool) → ltb s.deadline t ≡ b → (b || beyond overall t) ≡ false → t ≤ s.deadline
      go true e h = absurd (mathlib.Core.Bool.true≢false h)
      go false e h = ltb-false s.deadline t e

  pub drives : {es : List Event} {ts : List ℕ} {is : List Input} → Merged es ts is → (t : ℕ) (s : State) → InOrder t is → Valid fits (length s.read) es
      → Meant s es (clock t is) (goes (waiting t s) is)
  unfolding run turns
  drives done t s o v = (refl, refl, λ rest. refl)
  drives (ticks {t = u} {es = es} {is = is} m) t s o v =
      subst⁻¹ (Meant s es (clock u is)) (run-takes t s (tick u) is refl o.0) (by-past (past overall s u) refl (drives m u s o.1 v))
    where
      by-past : (b : Bool) → past overall s u ≡ b → Meant s es (clock u is) (goes (waiting u s) is) → Meant s es (clock u is) (goes (cond b (late overall s) (waiting u s)) is)
      by-past true e more = decides-late s u (clock u is) es is e (λ rest r. merged-rising m u o.1 rest r)
      by-past false e more = more
  drives (takes {e = e} {es = es} {is = is} m) t s o v =
      subst⁻¹ (Meant s (e ∷ es) (clock (time_of e) is)) (run-takes t s (event e) is v.0 o.0)
      (by-past (past overall s (time_of e)) refl (λ s' n. drives m (time_of e) s' o.1 (subst⁻¹ (λ (k : ℕ). Valid fits k es) n v.1)))
    where
      by_turn : time_of e ≤ s.deadline → (z : Turn) → turn strict a s e ≡ z → OneMore s z
          → ((s' : State) → length s'.read ≡ suc (length s.read) → Meant s' es (clock (time_of e) is) (goes (waiting (time_of e) s') is))
          → Meant s (e ∷ es) (clock (time_of e) is) (goes (follow overall (time_of e) z) is)
      by_turn h (on s') k n more = behind s s' e es (clock (time_of e) is) h k (goes (waiting (time_of e) s') is) (more s' n)
      by_turn h (ends x) k n more =
          subst⁻¹ (Meant s (e ∷ es) (clock (time_of e) is)) (run-decided (under overall x) is) (λ rest r. ap (under overall) (settle-ends strict a s x e (es ++ rest) h k))

      by-past : (b : Bool) → past overall s (time_of e) ≡ b
          → ((s' : State) → length s'.read ≡ suc (length s.read) → Meant s' es (clock (time_of e) is) (goes (waiting (time_of e) s') is))
          → Meant s (e ∷ es) (clock (time_of e) is) (goes (cond b (late overall s) (follow overall (time_of e) (turn strict a s e))) is)
      by-past true b more = decides-late s (time_of e) (clock (time_of e) is) (e ∷ es) is b (λ rest r. (omega arith, merged-rising m (time_of e) o.1 rest r))
      by-past false b more = by_turn (in-time s (time_of e) b) (turn strict a s e) refl (one_more strict a s e) more

  -- In the end.
  ends_now : (es : List Event) (t now : ℕ) (z : Engine) → Meant (start a) es t z → t ≤ now → Due overall z now → goes z (tick now ∷ []) ≡ decided (exchange strict a overall es)
  unfolding run exchange settle
  ends_now es t now (waiting last s) m h d =
      let same = ap (λ (l : List Event). under overall (settle strict a l (start a))) (sym (append-nil es)) ∙ ap (under overall) (m.2 []) in
      run-takes last s (tick now) [] refl (omega (arith, m.0)) ∙ rw d (ap decided (sym same))
  ends_now es t now (decided x) m h d =
      run-decided x (tick now ∷ []) ∙ ap decided (sym (m [] tt) ∙ ap (λ (l : List Event). under overall (settle strict a l (start a))) (append-nil es))

  ordered : (t now : ℕ) (is : List Input) → InOrder t (is ++ (tick now ∷ [])) → InOrder t is × (clock t is ≤ now)
  ordered t now [] o = (tt, o.0)
  ordered t now (i ∷ is) o = let h = ordered (time_in i) now is o.1 in ((o.0, h.0), h.1)

  answers : (es : List Event) (ts : List ℕ) (is : List Input) (now : ℕ) → Merged es ts is → InOrder 0 (is ++ (tick now ∷ [])) → Valid fits 0 es
      → Due overall (goes (waiting 0 (start a)) is) now → goes (waiting 0 (start a)) (is ++ (tick now ∷ [])) ≡ decided (exchange strict a overall es)
  answers es ts is now m o v d =
      let h = ordered 0 now is o in
      run-append (waiting 0 (start a)) is (tick now ∷ []) ∙
      ends_now es (clock 0 is) now (goes (waiting 0 (start a)) is) (drives m 0 (start a) h.0 v) h.1 d

  -- A tick past the finishing time.
  under-due : (limit : Option ℕ) (s : State) (now : ℕ) → (under limit (silence s)).time < now → past limit s now ≡ true
  under-due none s now h = rw (lt-ltb s.deadline now h) refl
  under-due (some limit) s now h = go (leb s.deadline limit) refl h
    where
      go : (b : Bool) → leb s.deadline limit ≡ b
          → (cond b (counted (silence s)) (answer timeout limit (up_to limit s.read) (up_to limit s.notices) nowhere)).time < now → past (some limit) s now ≡ true
      go true e h = rw (lt-ltb s.deadline now h) refl
      go false e h = rw (lt-ltb limit now h) (or-true (ltb s.deadline now))

  due-now : (es : List Event) (t now : ℕ) (z : Engine) → Meant (start a) es t z → (exchange strict a overall es).time < now → Due overall z now
  unfolding exchange settle
  due-now es t now (waiting last s) m h =
      let same = ap (λ (l : List Event). under overall (settle strict a l (start a))) (sym (append-nil es)) ∙ ap (under overall) (m.2 []) in
      under-due overall s now (subst (λ (x : Answer). x.time < now) same h)
  due-now es t now (decided x) m h = tt

  pub refused : (e : Engine) (i : Input) (n : ℕ) → (step fits strict a overall e i).refusal ≡ some n → (step fits strict a overall e i).engine ≡ e
  unfolding step
  refused (decided x) i n h = refl
  refused (waiting last s) i n h =
      judge-ind (λ (z : Stepped). z.refusal ≡ some n → z.engine ≡ waiting last s) (λ (k : ℕ). stepped (some k) (waiting last s))
      (unless (fitting fits s i) 10 ∷ unless (leb last (time_in i)) 20 ∷ []) (stepped none (accepts strict a overall s i)) (λ k e. refl) (λ p e. absurd (none≢some e)) h

-- Two judgements by the same checks.
judge-both : {A B C : Type 0} (P : B → C → Type 0) (wrong : A → B) (wrong' : A → C) (cs : List (Check A)) (x : B) (y : C) → ((f : A) → P (wrong f) (wrong' f)) → P x y
    → P (judge wrong cs x) (judge wrong' cs y)
judge-both P wrong wrong' [] x y f h = h
judge-both P wrong wrong' (c ∷ cs) x y f h = go c.test (judge-both P wrong wrong' cs x y f h)
  where
    go : (b : Bool) → P (judge wrong cs x) (judge wrong' cs y) → P (cond b (judge wrong cs x) (wrong c.fault)) (cond b (judge wrong' cs y) (wrong' c.fault))
    go true k = k
    go false k = f c.fault

-- A last check that passes may go.
judge-last : {A B : Type 0} (wrong : A → B) (cs ds : List (Check A)) (d : Check A) (x : B) → d.test ≡ true
    → judge wrong (cs ++ (ds ++ (d ∷ []))) x ≡ judge wrong (cs ++ ds) x
judge-last wrong [] [] d x h = rw h refl
judge-last wrong [] (e ∷ ds) d x h = ap (λ z. cond e.test z (wrong e.fault)) (judge-last wrong [] ds d x h)
judge-last wrong (c ∷ cs) ds d x h = ap (λ z. cond c.test z (wrong c.fault)) (judge-last wrong cs ds d x h)

module _ (fits : ℕ → Event → Bool) (strict : Bool) (w : Setting) (c : Call) (l : Lent) (ts : List ℕ) (is : List Input) (now : ℕ) where
  abbrev engine : Engine → List Input → Engine
  engine = run fits strict (asked w c) w.overall

  whole : within_limits l.form l.events l.replies ≡ true → Merged (events_in l) ts is → InOrder 0 (is ++ (tick now ∷ [])) → Valid fits 0 (events_in l)
      → Due w.overall (engine (begin w c l.buffer) is) now
      → decision strict c (engine (begin w c l.buffer) (is ++ (tick now ∷ []))) ≡ some (call strict w c l).answer
  unfolding begin call
  whole limits m o v d =
      let request = request_of w.quiet c in
      let sizes : List (Check ℕ) = unless (leb (length request) 4095) 8 ∷ unless (leb (length request) (length l.buffer)) 9 ∷ [] in
      let x = answered w c l request (after strict c (exchange strict (asked w c) w.overall (events_in l))) in
      judge-both (λ (z : Engine) (r : Result). Due w.overall (engine z is) now → decision strict c (engine z (is ++ (tick now ∷ []))) ≡ some r.answer)
      (λ (n : ℕ). decided (refusal n)) (refuse w l) (arguments c ++ sizes) (waiting 0 (start (asked w c))) x
      (λ n due. ap (decision strict c) (run-decided fits strict (asked w c) w.overall (refusal n) (is ++ (tick now ∷ []))))
      (λ due. ap (decision strict c) (answers fits strict (asked w c) w.overall (events_in l) ts is now m o v due)) d ∙
      ap (λ (r : Result). some r.answer) (sym (judge-last (refuse w l) (arguments c) sizes (unless (within_limits l.form l.events l.replies) 10) x limits))

pub driven : (fits : ℕ → Event → Bool) → Driven fits
driven fits = record {
  prefix = λ strict a overall es ts is m o v. drives fits strict a overall m 0 (start a) o v;
  answers = answers fits;
  due = λ strict a overall es ts is now m o v h. due-now fits strict a overall es (clock 0 is) now (run fits strict a overall (waiting 0 (start a)) is) (drives fits strict a overall m 0 (start a) o v) h;
  whole = λ strict w c l ts is now limits. whole fits strict w c l ts is now limits;
  refused = refused fits;
}
