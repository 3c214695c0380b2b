-- As a PLC hands them: each event with reply bytes of its own. The code's engine decides what the list engine answers to the events that were heard,
-- concluded over the bytes lent with the event that settled it.
use Prim.Native.Nat.{ℕ, ◌≤◌}
use native.Mathlib.Omega.{arith}
use mathlib.Core.Bool.{Bool}
use mathlib.Core.Path.{◌≡◌, sym, ◌∙◌, ap, subst, subst⁻¹}
use mathlib.Core.List.{List, [], ◌∷◌, ◌++◌, map}
use mathlib.Core.Option.{Option}
use lib.ListN.{length}
use Rattle.rules.specs.Answers as answers
use Rattle.rules.specs.Events.{Entry, Event}
use Rattle.rules.specs.Exchange as exchange
use Rattle.rules.specs.Foreign.{bare_answer}
use Rattle.stepwise.specs.Engine as wise
use Rattle.stepwise.specs.Engine.{waiting, decided, tick, step}
use Rattle.stepwise.specs.Driven as driven
use Rattle.stepwise.specs.Driven.{InOrder}
use Rattle.stepwise.specs.Handed.{Handed, lent, now, input_of, hands, run_of}
use Rattle.stepwise.proofs.Handed.{run_of-append}
use Rattle.stepwise.proofs.Apart.{Apart, apart}
use Rattle.exchange.specs.Meaning.{asked_of, option_of}
use Rattle.exchange.specs.States.{state_of}
use Rattle.calls.specs.declared.Answered.{Answered}
use Rattle.steps.specs.declared.Begun.{Begun}
use Rattle.steps.specs.declared.Engine.{Engine}
use Rattle.steps.specs.declared.Phase.{Phase}
use Rattle.steps.specs.declared.Phase.TheVariants.{Waiting, Settled}
use Rattle.steps.specs.Running.{Steps, Due}
use Rattle.steps.specs.Stepping.{Stepped, asked_in, tick_of, refusing, HandsIn, Hands}
use Rattle.steps.proofs.Standing.{Decided, Stands, tick-stands, event-stands}

module _ (b : Begun) (a s : List ℕ) where
  abbrev strict : Bool
  strict = b.ask.strict

  abbrev asks : exchange.Asked
  asks = asked_of (asked_in b)

  abbrev overall : Option ℕ
  overall = option_of b.ask.overall

  abbrev listens : ℕ
  listens = b.ask.channel.listens

  -- Over the reply bytes of the event that settled it; an engine that waits holds none.
  abbrev StandsIn : Engine → wise.Engine → Type 0
  StandsIn e (waiting last z) = Stands b a s [] e (waiting last z)
  StandsIn e (decided y) = (replies : List ℕ) × Stands b a s replies e (decided y)

  over : (replies : List ℕ) (e : Engine) (z : wise.Engine) → Stands b a s replies e z → StandsIn e z
  over replies e (waiting last z) h = h
  over replies e (decided y) h = (replies, h)

  event-in : (e : Engine) (z : wise.Engine) → StandsIn e z → (replies : List ℕ) (x : Entry) {r : Stepped} → Hands e a s x replies r
      → StandsIn r.engine (hands strict asks overall listens z (lent replies x)).engine
  unfolding step
  event-in e (waiting last z) h replies x {r} k = over replies r.engine
      (hands strict asks overall listens (waiting last z) (lent replies x)).engine (event-stands b a s replies e (waiting last z) h x k).1
  event-in e (decided y) h replies x {r} k =
      let settled : e.phase ≡ Settled h.1.1 = ap (λ (q : Engine). q.phase) h.1.2 in
      let rests : r ≡ refusing 21 e = subst (λ (q : Phase). HandsIn e a s x replies q r) settled k.means in
      subst⁻¹ (λ (q : Stepped). StandsIn q.engine (decided y)) rests h

  tick-in : (e : Engine) (z : wise.Engine) → StandsIn e z → (t : ℕ)
      → StandsIn (tick_of e t).engine (hands strict asks overall listens z (now t)).engine
  unfolding step
  tick-in e (waiting last z) h t = over [] (tick_of e t).engine (hands strict asks overall listens (waiting last z) (now t)).engine
      (tick-stands b a s [] e (waiting last z) h t).1
  tick-in e (decided y) h t = (h.0, (tick-stands b a s h.0 e (decided y) h.1 t).1)

  abbrev runs : wise.Engine → List Handed → wise.Engine
  runs = run_of strict asks overall listens

  run_in : (hs : List Handed) (e : Engine) (z : wise.Engine) (e' : Engine) → StandsIn e z → Steps a s hs e e' → StandsIn e' (runs z hs)
  unfolding run_of
  run_in [] e z e' h k = subst (λ (q : Engine). StandsIn q z) k h
  run_in (lent replies x ∷ hs) e z e' h k = run_in hs k.0.engine (hands strict asks overall listens z (lent replies x)).engine e'
      (event-in e z h replies x k.1) k.2
  run_in (now t ∷ hs) e z e' h k = run_in hs (tick_of e t).engine (hands strict asks overall listens z (now t)).engine e' (tick-in e z h t) k

  due_in : (e : Engine) (z : wise.Engine) (t : ℕ) → StandsIn e z → Due e t → driven.Due overall z t
  due_in e (waiting last z) t h d = subst (λ (q : Engine). Due q t) h.0 d
  due_in e (decided y) t h d = tt

  -- Begun and waiting; each event handed over with bytes of its own, any ticks, a tick that is due: settled, and what is concluded is the list
  -- engine's answer but for places.
  pub decides-apart : {es : List Event} {ts : List ℕ} {hs : List Handed} (last : ℕ) (e e' : Engine)
      → e ≡ record { begun = b; last = 0; phase = Waiting (state_of overall (exchange.start asks)) } → length es ≤ 512 → Apart listens es ts hs
      → InOrder 0 (map (input_of listens) hs ++ (tick last ∷ [])) → Steps a s hs e e' → Due e' last
      → (replies : List ℕ) × (x : Answered) × (y : answers.Answer) × ((tick_of e' last).engine.phase ≡ Settled x) × Decided b a s replies x y ×
      (bare_answer y ≡ bare_answer (exchange.exchange strict asks overall es))
  decides-apart {hs = hs} last e e' begins most m o k due =
      let z = waiting 0 (exchange.start asks) in
      let ran = run_in hs e z e' (begins, omega arith, omega arith) k in
      let ends = apart listens strict asks overall last most m o (due_in e' (runs z hs) last ran due) in
      let same : (hands strict asks overall listens (runs z hs) (now last)).engine
      ≡ decided ends.0 = sym (run_of-append strict asks overall listens z hs (now last)) ∙ ends.1 in
      let stands : StandsIn (tick_of e' last).engine (decided ends.0) = subst (StandsIn (tick_of e' last).engine) same
      (tick-in e' (runs z hs) ran last) in
      (stands.0, stands.1.1, ends.0, ap (λ (q : Engine). q.phase) stands.1.2, stands.1.3, ends.2)
