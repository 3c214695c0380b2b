-- The strict exchange against the events alone: a waiting that closes in time is answered, and an answer comes of one; silence likewise.
use Prim.Native.Nat.{ℕ, suc, ◌+◌, ◌≤◌}
use native.Mathlib.Omega.{arith}
use mathlib.Core.Bool.{Bool, true, false, cond, false≢true}
use mathlib.Core.Path.{◌≡◌, refl, sym, ◌∙◌, ap, ap₂}
use mathlib.Core.Logic.{◌⊎◌, inl, inr}
use mathlib.Core.List.{List, [], ◌∷◌, ◌++◌, map}
use lib.ListN.{length}
use borrow.Author.Tests.{le-leb, lt-leb}
use Rattle.rules.specs.Answers.{Part, part, nowhere, Outcome, suppressed, timeout, answer}
use Rattle.rules.specs.Conversations.{Waiting, none, idles, notice, Paced, IsIdle, Every}
use Rattle.rules.specs.Counts.{After, Rising}
use Rattle.rules.specs.Demand3.{Answers}
use Rattle.rules.specs.Events.{Event, reply, idle, ended, failed, time_of, up_to}
use Rattle.rules.specs.Exchange.{Asked, Step, pending, settles, Settled, State, state, finish, allows, notes, hears, turn, silence, settle, counted, look}
use Rattle.rules.proofs.Look.{notice-look, look-notice}
use Rattle.rules.specs.Settings.{Within}
use Rattle.rules.proofs.Within.{within-less, within-allows, allows-within}
use Rattle.rules.proofs.Turns.{Through, settle-on, settle-ends, settle-ind}

-- Whether suppression still holds behind notices at these times.
abbrev pub still : List ℕ → Bool → Bool
still [] hush = hush
still (t ∷ ts) hush = false

still_false : (ts : List ℕ) → still ts false ≡ false
still_false [] = refl
still_false (t ∷ ts) = refl

-- Where the first event is late all are.
late : (es : List Event) (t d : ℕ) → Rising t es → After d es → (up_to d (map time_of es) ≡ 0) × Every (λ e. time_of e ≤ d → IsIdle e) es
late [] t d r h = (refl, tt)
late (e ∷ es) t d r h =
    let l = late es (time_of e) d r.1 (next es r.1) in (rw (lt-leb (time_of e) d h) (omega (arith, l.0)), (λ k. absurd (omega arith), l.1))
  where
    next : (es : List Event) → Rising (time_of e) es → After d es
    next [] r = tt
    next (f ∷ es) r = omega arith

module _ (a : Asked) where
  -- Whatever stands before the closing of a paced waiting is in time.
  by-then : {before : List Event} {ts : List ℕ} → Waiting a.sid before ts → (u d t : ℕ) (p : Part) (rest : List Event)
      → Rising u (before ++ (reply t p ∷ rest)) → Paced d a.timing.star (ts ++ (t ∷ [])) → u ≤ d
  by-then none u d t p rest r k = omega arith
  by-then (idles {t = v} w) u d t p rest r k = let h = by-then w v d t p rest r.1 k in omega arith
  by-then (notice w) u d t p rest r k = omega arith

  -- A waiting that closes is answered by its closing.
  pub reaches : {before : List Event} {ts : List ℕ} → Waiting a.sid before ts → (u : ℕ) (o : Outcome) (t : ℕ) (p : Part) (rest : List Event) (s : State)
      → Rising u (before ++ (reply t p ∷ rest)) → Paced s.deadline a.timing.star (ts ++ (t ∷ [])) → look true a (still ts s.hush) p ≡ settles o
      → Within a.limit (length s.notices + length ts)
      → counted (settle true a (before ++ (reply t p ∷ rest)) s) ≡ answer o (finish a o t) (length s.read + length before + 1) (length s.notices + length ts) p
  reaches none u o t p rest s r k h q =
      ap counted (settle-ends true a s _ (reply t p) rest k.0 (ap (hears a s t p) h)) ∙
      ap₂ (λ (e n : ℕ). answer o (finish a o t) e n p) (omega arith) (omega arith)
  reaches (idles {t = v} {ts = ts} w) u o t p rest s r k h q =
      ap counted (settle-on true a s _ (idle v) _ (by-then w v s.deadline t p rest r.1 k) refl) ∙
      reaches w v o t p rest (state s.hush s.deadline (v ∷ s.read) s.notices) r.1 k h q ∙
      ap (λ (e : ℕ). answer o (finish a o t) e (length s.notices + length ts) p) (omega arith)
  reaches (notice {t = v} {at = at} {ts = ts} w) u o t p rest s r k h q =
      let n = part at (0x7f ∷ a.sid ∷ 0x78 ∷ []) in
      let more = within-allows a.limit (length s.notices) (within-less a.limit (suc (length s.notices)) (length s.notices + length (v ∷ ts)) (omega arith) q) in
      ap counted (settle-on true a s _ (reply v n) _ k.0 (ap (hears a s v n) (notice-look a s.hush at) ∙ ap (notes a s v n) more)) ∙
      reaches w v o t p rest (state false (v + a.timing.star) (v ∷ s.read) (v ∷ s.notices)) r.1 k.1 (ap (λ (q : Bool). look true a q p) (still_false ts) ∙ h)
      (within-less a.limit (length (v ∷ s.notices) + length ts) (length s.notices + length (v ∷ ts)) (omega arith) q) ∙
      ap₂ (λ (e n : ℕ). answer o (finish a o t) e n p) (omega arith) (omega arith)

  -- Silence under suppression is answered at the deadline.
  abbrev Hushes : State → List Event → Settled → Type 0
  Hushes s es x =
      (t : ℕ) → Rising t es → s.hush ≡ true → Every (λ e. time_of e ≤ s.deadline → IsIdle e) es
      → counted x ≡ answer suppressed s.deadline (length s.read + up_to s.deadline (map time_of es)) (length s.notices) nowhere

  hushes-through : (s : State) (e : Event) (es : List Event) → time_of e ≤ s.deadline → Through Hushes s e es (turn true a s e)
  hushes-through s (reply t p) es k = by-look (look true a s.hush p)
    where
      by-look : (z : Step) → Through Hushes s (reply t p) es (hears a s t p z)
      by-look pending = noted (allows a.limit (length s.notices))
        where
          noted : (b : Bool) → Through Hushes s (reply t p) es (notes a s t p b)
          noted true = λ x h u r q i. absurd (i.0 k)
          noted false = λ u r q i. absurd (i.0 k)
      by-look (settles o) = λ u r q i. absurd (i.0 k)
  hushes-through s (idle t) es k =
      λ x h u r q i. h t r.1 q i.1 ∙ rw (le-leb t s.deadline k) (ap (λ (n : ℕ). answer suppressed s.deadline n (length s.notices) nowhere) (omega arith))
  hushes-through s (ended t) es k = λ u r q i. absurd (i.0 k)
  hushes-through s (failed t n) es k = λ u r q i. absurd (i.0 k)

  pub hushes : (es : List Event) (s : State) → Hushes s es (settle true a es s)
  hushes =
      settle-ind true a Hushes
      (λ s es h t r q i. ap₂ (λ (b : Bool) (n : ℕ). answer (cond b suppressed timeout) s.deadline n (length s.notices) nowhere) q (omega (arith, (late es t s.deadline r h).0)))
      hushes-through

  -- What the events of an exchange that answered o by the reply p must have been; or they were silence.
  pub record Found (s : State) (es : List Event) (o : Outcome) (p : Part) : Type 0 where
    pub before : List Event
    pub times : List ℕ
    pub at : ℕ
    pub rest : List Event
    pub begins : es ≡ before ++ (reply at p ∷ rest)
    pub waits : Waiting a.sid before times
    pub paced : Paced s.deadline a.timing.star (times ++ (at ∷ []))
    pub closes : look true a (still times s.hush) p ≡ settles o
    pub patient : Within a.limit (length s.notices + length times)

  abbrev pub Hushed : State → List Event → Type 0
  Hushed s es = (s.hush ≡ true) × Every (λ e. time_of e ≤ s.deadline → IsIdle e) es

  abbrev pub Finds : State → List Event → Settled → Type 0
  Finds s es x = (t : ℕ) → Rising t es → Within a.limit (length s.notices) → Answers x.outcome → Found s es x.outcome x.reply ⊎ Hushed s es

  silent : (s : State) (es : List Event) → After s.deadline es → Finds s es (silence s)
  silent s es h t r q ok = go s.hush refl ok
    where
      go : (b : Bool) → s.hush ≡ b → Answers (cond b suppressed timeout) → Found s es (silence s).outcome nowhere ⊎ Hushed s es
      go false e no_answer = absurd no_answer
      go true e k = inr (e, (late es t s.deadline r h).1)

  past-idle : (s : State) (t : ℕ) (es : List Event) (o : Outcome) (p : Part) → let s' = state s.hush s.deadline (t ∷ s.read) s.notices in
      Found s' es o p ⊎ Hushed s' es → Found s (idle t ∷ es) o p ⊎ Hushed s (idle t ∷ es)
  past-idle s t es o p (inl f) = inl (record {
    before = idle t ∷ f.before;
    times = f.times;
    at = f.at;
    rest = f.rest;
    begins = ap (λ (l : List Event). idle t ∷ l) f.begins;
    waits = idles f.waits;
    paced = f.paced;
    closes = f.closes;
    patient = f.patient;
  })
  past-idle s t es o p (inr h) = inr (h.0, (λ k. tt, h.1))

  past-notice : (s : State) (t : ℕ) (es : List Event) (o : Outcome) (p q : Part) → t ≤ s.deadline → q.bytes ≡ 0x7f ∷ a.sid ∷ 0x78 ∷ [] →
      let s' = state false (t + a.timing.star) (t ∷ s.read) (t ∷ s.notices) in Found s' es o p ⊎ Hushed s' es → Found s (reply t q ∷ es) o p
  past-notice s t es o p q k n (inl f) = record {
    before = reply t (part q.at (0x7f ∷ a.sid ∷ 0x78 ∷ [])) ∷ f.before;
    times = t ∷ f.times;
    at = f.at;
    rest = f.rest;
    begins = ap₂ (λ (bs : List ℕ) (l : List Event). reply t (part q.at bs) ∷ l) n f.begins;
    waits = notice f.waits;
    paced = (k, f.paced);
    closes = ap (λ (b : Bool). look true a b p) (sym (still_false f.times)) ∙ f.closes;
    patient = within-less a.limit (length s.notices + length (t ∷ f.times)) (length (t ∷ s.notices) + length f.times) (omega arith) f.patient;
  }
  past-notice s t es o p q k n (inr h) = absurd (false≢true h.0)

  through : (s : State) (e : Event) (es : List Event) → time_of e ≤ s.deadline → Through Finds s e es (turn true a s e)
  through s (reply t p) es k = by-look (look true a s.hush p) refl
    where
      by-look : (z : Step) → look true a s.hush p ≡ z → Through Finds s (reply t p) es (hears a s t p z)
      by-look pending l = noted (allows a.limit (length s.notices)) refl
        where
          noted : (b : Bool) → allows a.limit (length s.notices) ≡ b → Through Finds s (reply t p) es (notes a s t p b)
          noted true e =
              λ x h u r q ok. inl (past-notice s t es x.outcome x.reply p k (look-notice a s.hush p l) (h t r.1 (allows-within a.limit (length s.notices) e) ok))
          noted false e = λ u r q ok. absurd ok
      by-look (settles o) l = λ u r q ok. inl (record {
        before = [];
        times = [];
        at = t;
        rest = es;
        begins = refl;
        waits = none;
        paced = (k, tt);
        closes = l;
        patient = within-less a.limit (length s.notices + 0) (length s.notices) (omega arith) q;
      })
  through s (idle t) es k = λ x h u r q ok. past-idle s t es x.outcome x.reply (h t r.1 q ok)
  through s (ended t) es k = λ u r q ok. absurd ok
  through s (failed t n) es k = λ u r q ok. absurd ok

  pub found : (es : List Event) (s : State) → Finds s es (settle true a es s)
  found = settle-ind true a Finds silent through
