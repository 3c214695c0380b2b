-- The engine's steps stand for those of `stepwise`: a waiting state counts the times that the definition's state keeps, and what was decided is the definition's answer, checked.
use Prim.Native.Nat.{ℕ, ◌≤◌, ◌<◌}
use native.Mathlib.Omega.{arith}
use mathlib.Core.Bool.{Bool, true, false, cond, ◌&&◌, and-true, and-false}
use mathlib.Core.Path.{◌≡◌, refl, sym, ◌∙◌, ap, subst, subst⁻¹}
use mathlib.Core.List.{List, [], ◌++◌}
use mathlib.Core.Option.{Option, none, some}
use lib.Dec.{leb, ltb, eqb}
use lib.ListN.{length, length-append}
use borrow.Author.Tests.{leb-true, leb-false, lt-ltb, le-ltb}
use Rattle.rules.specs.Answers as answers
use Rattle.rules.specs.Answers.{if_positive}
use Rattle.rules.specs.Calls.{loads, numbered}
use Rattle.rules.specs.Events.{Entry, Event, event_of, sound}
use Rattle.rules.specs.Exchange as rules
use Rattle.rules.specs.Exchange.{state, on, ends, turn, silence, under}
use Rattle.rules.specs.Limited.{spent}
use Rattle.rules.proofs.Limits.{event-time}
use Rattle.rules.proofs.Turns.{raised, turn-raised, ReadsOne, turn-reads-one}
use Rattle.stepwise.specs.Engine as wise
use Rattle.stepwise.specs.Engine.{waiting, decided, step, stepped, accepts, follow, past}
use Rattle.stepwise.specs.Handed.{lent, now, hands}
use Rattle.exchange.specs.Counts.{count_of, plus}
use Rattle.exchange.specs.Meaning.{asked_of, option_of, timed}
use Rattle.exchange.specs.Places.{beginning, TurnsTo, Answers}
use Rattle.exchange.specs.States.{no_place, state_of, silence_of, whole_of, cut_of, under_of}
use Rattle.exchange.specs.declared.types.Answer.{Answer}
use Rattle.exchange.specs.declared.types.Outcome.TheVariants as outcome
use Rattle.exchange.specs.declared.types.State.{State}
use Rattle.exchange.specs.declared.types.Turn.{Turn}
use Rattle.exchange.specs.declared.types.Turn.TheVariants.{On, Ends}
use Rattle.exchange.proofs.Counting.{plus-counts}
use Rattle.exchange.proofs.Entries.{beginning-inside}
use Rattle.exchange.proofs.Placing.{whole-inside}
use Rattle.exchange.proofs.Settling.{under-stands, silence-stands}
use Rattle.requests.specs.Meaning.{bare}
use Rattle.checks.specs.Answered.{fitting}
use Rattle.calls.specs.Concluded.{Concluded}
use Rattle.calls.specs.declared.Answered.{Answered}
use Rattle.steps.specs.declared.Begun.{Begun}
use Rattle.steps.specs.declared.Engine.{Engine}
use Rattle.steps.specs.declared.Phase.{Phase}
use Rattle.steps.specs.declared.Phase.TheVariants.{Waiting, Settled}
use Rattle.steps.specs.Stepping.{Stepped, asked_in, past_of, refusing, going_on, late_of, tick_of, Behind, Turned, HandsTo, Hands}

-- A step's refusal, 0 where it was taken.
abbrev pub refusal_in : Option ℕ → ℕ
refusal_in none = 0
refusal_in (some n) = n

-- Nothing heard concludes as it is: no check, no number, the session's timing as it was.
same : {A : Type 0} (k : Bool) (x : A) → cond k x x ≡ x
same true x = refl
same false x = refl

module _ (b : Begun) (a s replies : List ℕ) where
  abbrev asks : rules.Asked
  asks = asked_of (asked_in b)

  abbrev overall : Option ℕ
  overall = option_of b.ask.overall

  abbrev listens : ℕ
  listens = b.ask.channel.listens

  abbrev at : ℕ → Phase → Engine
  at t p = record { begun = b; last = t; phase = p }

  -- What was decided is what was heard, concluded.
  pub record Decided (x : Answered) (y : answers.Answer) : Type 0 where
    pub heard : Answer
    pub answers : Answers replies heard y
    pub concluded : Concluded b.session b.ask b.sent a s replies heard x

  abbrev pub Stands : Engine → wise.Engine → Type 0
  Stands e (waiting last z) = (e ≡ at last (Waiting (state_of overall z))) × (length z.read ≤ 512) × (length z.notices ≤ length z.read)
  Stands e (decided y) = (t : ℕ) × (x : Answered) × (e ≡ at t (Settled x)) × Decided x y

  abbrev pub StandsFor : Stepped → wise.Stepped → Type 0
  StandsFor r y = (r.refusal ≡ refusal_in y.refusal) × Stands r.engine y.engine

  -- Silence, under T or not, is decided as it is: no check, no number, the session's timing as it was.
  abbrev Quietly : Answer → Type 0
  Quietly heard = Concluded b.session b.ask b.sent a s replies heard (record { answer = heard; number = 0; sent = b.sent; timing = b.session })

  module _ (t n m : ℕ) where
    suppressed : Quietly (record { outcome = outcome.Suppressed; time = t; events = n; notices = m; reply = no_place })
    suppressed = record {
      outcome = record { means = refl; inside = tt };
      time = refl;
      events = refl;
      notices = refl;
      reply = refl;
      number = ap fitting (sym (same (loads (bare b.ask.call)) 0));
      sent = refl;
      timing = sym (same (eqb (numbered (bare b.ask.call)) 1 && b.ask.server) (timed b.session));
    }

    timed-out : Quietly (record { outcome = outcome.Timeout; time = t; events = n; notices = m; reply = no_place })
    timed-out = record {
      outcome = record { means = refl; inside = tt };
      time = refl;
      events = refl;
      notices = refl;
      reply = refl;
      number = ap fitting (sym (same (loads (bare b.ask.call)) 0));
      sent = refl;
      timing = sym (same (eqb (numbered (bare b.ask.call)) 1 && b.ask.server) (timed b.session));
    }

  unheard : (z : State) → Quietly (under_of overall (silence_of z))
  unheard z = go overall z.hush
    where
      silent : Bool → State
      silent hush = record { hush = hush; deadline = z.deadline; read = z.read; notices = z.notices }

      within : (hush : Bool) → Quietly (whole_of (silence_of (silent hush)))
      within true = suppressed z.deadline z.read.all z.notices.all
      within false = timed-out z.deadline z.read.all z.notices.all

      go : (over : Option ℕ) (hush : Bool) → Quietly (under_of over (silence_of (silent hush)))
      go none hush = within hush
      go (some over) hush = cut (leb z.deadline over)
        where
          cut : (k : Bool) → Quietly (cond k (whole_of (silence_of (silent hush))) (cut_of over (silence_of (silent hush))))
          cut true = within hush
          cut false = timed-out over z.read.early z.notices.early

  -- Too late: as the definition's silence, under T.
  late-stands : (t : ℕ) (z : rules.State) (last : ℕ) → StandsFor (late_of t (state_of overall z) (at last (Waiting (state_of overall z)))) (stepped none (wise.late overall z))
  late-stands t z last = (
    refl,
    (
      t,
      _,
      refl,
      record {
        heard = under_of overall (silence_of (state_of overall z));
        answers = under-stands overall (silence-stands overall replies z);
        concluded = unheard (state_of overall z);
      },
    ),
  )

  pub tick-stands : (e : Engine) (z : wise.Engine) → Stands e z → (t : ℕ) → StandsFor (tick_of e t) (hands b.ask.strict asks overall listens z (now t))
  unfolding step
  tick-stands e (decided y) h t = subst⁻¹ (λ (e : Engine). StandsFor (tick_of e t) (stepped (some 21) (decided y))) h.2 (refl, (h.0, h.1, refl, h.3))
  tick-stands e (waiting last z) h t =
      subst⁻¹ (λ (e : Engine). StandsFor (tick_of e t) (hands b.ask.strict asks overall listens (waiting last z) (now t))) h.0 (go (leb last t) refl)
    where
      goes : (late : Bool) → StandsFor (cond late (late_of t (state_of overall z) (at last (Waiting (state_of overall z)))) (going_on t (state_of overall z) (at last (Waiting (state_of overall z)))))
          (stepped none (cond late (wise.late overall z) (waiting t z)))
      goes true = late-stands t z last
      goes false = (refl, (refl, h.1, h.2))

      go : (k : Bool) → leb last t ≡ k
          → StandsFor (tick_of (at last (Waiting (state_of overall z))) t) (cond k (stepped none (accepts b.ask.strict asks overall z (wise.tick t))) (stepped (some 20) (waiting last z)))
      go true k = rw (le-ltb t last (leb-true last t k)) (goes (past_of overall z.deadline t))
      go false k = rw (lt-ltb t last (leb-false last t k)) (refl, (refl, h.1, h.2))

  -- One event in time: the turn that the list engine takes.
  module _ (z : rules.State) (few : length z.read < 512) (fewer : length z.notices ≤ length z.read) (last : ℕ) (x : Entry) (fits : sound replies x ≡ true) where
    abbrev heard-as : Event
    heard-as = event_of listens replies x

    abbrev left_over : rules.Asked
    left_over = spent (length z.notices) asks

    -- The turn from the state where nothing was read.
    abbrev bare-turn : rules.Turn
    bare-turn = turn b.ask.strict left_over (state z.hush z.deadline [] []) heard-as

    counts : (ts us : List ℕ) → length ts ≤ 1 → length us ≤ length z.read → plus overall ts (count_of overall us) ≡ count_of overall (ts ++ us)
    counts ts us h k = plus-counts overall ts us (omega (arith, few))

    abbrev here : Engine
    here = at last (Waiting (state_of overall z))

    turned : (y : Turn) (v : rules.Turn) → ReadsOne v → TurnsTo overall replies (beginning x) (state_of overall z) y v → (r : Stepped) → Behind here x.time a s replies y r
        → StandsFor r (stepped none (follow overall x.time (raised z.read z.notices v)))
    turned (On next) (on v) one t r k =
        let stands : next ≡ state_of overall (state v.hush v.deadline (v.read ++ z.read) (v.notices ++ z.notices)) =
        t ∙ rw (counts v.read z.read (omega (arith, one.0)) (omega arith), counts v.notices z.notices one.1 fewer)
        in (
          ap (λ (q : Stepped). q.refusal) k,
          (
            ap (λ (q : Stepped). q.engine) k ∙ ap (λ (q : State). at x.time (Waiting q)) stands,
            omega (arith, length-append v.read z.read, one.0, few),
            omega (arith, length-append v.read z.read, length-append v.notices z.notices, one.0, one.1, fewer),
          ),
        )
    turned (Ends settled) (ends v) one t r k = (
      ap (λ (q : Stepped). q.refusal) k.2,
      (
        x.time,
        k.0,
        ap (λ (q : Stepped). q.engine) k.2,
        record {
          heard = under_of overall settled;
          answers = under-stands overall (record {
            means = t.means;
            time = t.time;
            read = t.read ∙ counts v.read z.read (omega (arith, one.0)) (omega arith);
            notices = t.notices ∙ counts v.notices z.notices one.1 fewer;
            reply = t.reply;
            inside = t.inside;
            placed = whole-inside replies settled.reply.at settled.reply.len t.whole (omega (arith, t.starts, beginning-inside replies x fits));
          });
          concluded = k.1;
        },
      ),
    )
    turned (On next) (ends v) one t r k = absurd t
    turned (Ends settled) (on v) one t r k = absurd t

    pub turn-stands : {r : Stepped} → Turned here (state_of overall z) a s x replies r
        → StandsFor r (stepped none (follow overall x.time (turn b.ask.strict asks z heard-as)))
    turn-stands {r} k =
        subst⁻¹ (λ (v : rules.Turn). StandsFor r (stepped none (follow overall x.time v))) (turn-raised b.ask.strict asks z heard-as)
        (turned k.turn bare-turn (turn-reads-one b.ask.strict left_over z.hush z.deadline heard-as) k.turns.means r k.behind)

  pub event-stands : (e : Engine) (z : wise.Engine) → Stands e z → (x : Entry) {r : Stepped} → Hands e a s x replies r → StandsFor r (hands b.ask.strict asks overall listens z (lent replies x))
  unfolding step
  event-stands e (decided y) h x {r} k =
      let at_rest = subst (λ (e : Engine). Hands e a s x replies r) h.2 k in
      subst⁻¹ (λ (q : Stepped). StandsFor q (stepped (some 21) (decided y))) at_rest.means (refl, (h.0, h.1, refl, h.3))
  event-stands e (waiting last z) h x {r} k =
      subst⁻¹ (λ (t : ℕ). StandsFor r (reached (sound replies x && ltb (length z.read) 512) t)) (event-time listens replies x)
      (go (leb 512 (length z.read)) refl (subst (λ (e : Engine). Hands e a s x replies r) h.0 k).means)
    where
      here' : Engine
      here' = at last (Waiting (state_of overall z))

      reached : Bool → ℕ → wise.Stepped
      reached fits t =
          cond fits
          (cond (leb last t)
          (stepped none (cond (past overall z t) (wise.late overall z) (follow overall t (turn b.ask.strict asks z (event_of listens replies x)))))
          (stepped (some 20) (waiting last z)))
          (stepped (some 10) (waiting last z))

      stays : (n : ℕ) → r ≡ refusing n here' → StandsFor r (stepped (some n) (waiting last z))
      stays n q = (ap (λ (q : Stepped). q.refusal) q, (ap (λ (q : Stepped). q.engine) q, h.1, h.2))

      timely : length z.read < 512 → sound replies x ≡ true → (late : Bool)
          → HandsTo here' a s x replies (state_of overall z) (cond late (some (late_of x.time (state_of overall z) here')) none) r
          → StandsFor r (stepped none (cond late (wise.late overall z) (follow overall x.time (turn b.ask.strict asks z (event_of listens replies x)))))
      timely few fits true q = subst⁻¹ (λ (q : Stepped). StandsFor q (stepped none (wise.late overall z))) q (late-stands x.time z last)
      timely few fits false q = turn-stands z few h.2 last x fits q

      rising : length z.read < 512 → sound replies x ≡ true → (k : Bool) → leb last x.time ≡ k
          → HandsTo here' a s x replies (state_of overall z)
          (cond (ltb x.time last) (some (refusing 20 here')) (cond (past_of overall z.deadline x.time) (some (late_of x.time (state_of overall z) here')) none)) r
          → StandsFor r
          (cond k (stepped none (cond (past overall z x.time) (wise.late overall z) (follow overall x.time (turn b.ask.strict asks z (event_of listens replies x)))))
          (stepped (some 20) (waiting last z)))
      rising few fits true k q = timely few fits (past_of overall z.deadline x.time) (rw (le-ltb x.time last (leb-true last x.time k)) at q)
      rising few fits false k q = stays 20 (rw (lt-ltb x.time last (leb-false last x.time k)) at q)

      fitting-in : length z.read < 512 → (v : Bool) → sound replies x ≡ v
          → HandsTo here' a s x replies (state_of overall z)
          (cond v (cond (ltb x.time last) (some (refusing 20 here')) (cond (past_of overall z.deadline x.time) (some (late_of x.time (state_of overall z) here')) none)) (some (refusing 10 here'))) r
          → StandsFor r (reached v x.time)
      fitting-in few true fits q = rising few fits (leb last x.time) refl q
      fitting-in few false fits q = stays 10 q

      go : (full : Bool) → leb 512 (length z.read) ≡ full
          → HandsTo here' a s x replies (state_of overall z) (cond full (some (refusing 10 here'))
          (cond (sound replies x) (cond (ltb x.time last) (some (refusing 20 here')) (cond (past_of overall z.deadline x.time) (some (late_of x.time (state_of overall z) here')) none)) (some (refusing 10 here')))) r
          → StandsFor r (reached (sound replies x && ltb (length z.read) 512) x.time)
      go true full q = rw (le-ltb (length z.read) 512 (leb-true 512 (length z.read) full), and-false (sound replies x)) (stays 10 q)
      go false full q = let few = leb-false 512 (length z.read) full in
          rw (lt-ltb (length z.read) 512 few, and-true (sound replies x)) (fitting-in few (sound replies x) refl q)
