-- As a PLC hands them: each event with reply bytes of its own. What is heard is the list's events but for places, and so is what is decided.
use Prim.Native.Nat.{ℕ, suc, ◌+◌, ◌≤◌}
use native.Mathlib.Omega.{arith}
use mathlib.Core.Bool.{Bool, true}
use mathlib.Core.Path.{◌≡◌, refl, sym, ◌∙◌, ap, ap₂, subst}
use mathlib.Core.List.{List, [], ◌∷◌, ◌++◌, map}
use mathlib.Core.Option.{Option}
use lib.Dec.{ltb}
use lib.ListN.{length}
use borrow.Author.Tests.{lt-ltb}
use Rattle.rules.specs.Answers.{Answer}
use Rattle.rules.specs.Events.{Entry, Event, event_of, sound}
use Rattle.rules.specs.Exchange.{Asked, start, exchange}
use Rattle.rules.specs.Foreign.{bare, bare_answer}
use Rattle.rules.proofs.Places.{bare-exchange}
use Rattle.stepwise.specs.Driven.{Merged, InOrder, Valid, Due}
use Rattle.stepwise.specs.Driven as driving
use Rattle.stepwise.specs.Engine.{event, tick, Engine, waiting, decided, step, run}
use Rattle.stepwise.specs.Handed.{Handed, lent, now, input_of, hands, run_of}
use Rattle.stepwise.proofs.Driven.{driven}
use Rattle.stepwise.proofs.Handed.{few, event-step, tick-step, last-run}

-- Events, and what is handed over for them: sound, and the same but for where a reply stands.
pub data Apart (listens : ℕ) : List Event → List ℕ → List Handed → Type 0 where
  done : Apart listens [] [] []
  takes : {x : Event} {es : List Event} {ts : List ℕ} {hs : List Handed} (replies : List ℕ) (e : Entry) → sound replies e ≡ true
      → bare (event_of listens replies e) ≡ bare x → Apart listens es ts hs → Apart listens (x ∷ es) ts (lent replies e ∷ hs)
  ticks : {t : ℕ} {es : List Event} {ts : List ℕ} {hs : List Handed} → Apart listens es ts hs → Apart listens es (t ∷ ts) (now t ∷ hs)

module _ (listens : ℕ) where
  -- What is heard.
  abbrev heard : List Handed → List Event
  heard [] = []
  heard (lent replies e ∷ hs) = event_of listens replies e ∷ heard hs
  heard (now t ∷ hs) = heard hs

  merged : {es : List Event} {ts : List ℕ} {hs : List Handed} → Apart listens es ts hs → Merged (heard hs) ts (map (input_of listens) hs)
  merged done = driving.done
  merged (takes replies e s b m) = driving.takes (merged m)
  merged (ticks m) = driving.ticks (merged m)

  alike : {es : List Event} {ts : List ℕ} {hs : List Handed} → Apart listens es ts hs → map bare (heard hs) ≡ map bare es
  alike done = refl
  alike (takes replies e s b m) = ap₂ (λ (y : Event) (ys : List Event). y ∷ ys) b (alike m)
  alike (ticks m) = alike m

  valid : {es : List Event} {ts : List ℕ} {hs : List Handed} (n : ℕ) → n + length es ≤ 512 → Apart listens es ts hs → Valid few n (heard hs)
  valid n h done = tt
  valid n h (takes {es = es} replies e s b m) = (lt-ltb n 512 (omega (arith, h)), valid (suc n) (omega (arith, h)) m)
  valid n h (ticks m) = valid n h m

  module _ (strict : Bool) (a : Asked) (overall : Option ℕ) where
    same-run : {es : List Event} {ts : List ℕ} {hs : List Handed} → Apart listens es ts hs → (z : Engine)
        → run_of strict a overall listens z hs ≡ run few strict a overall z (map (input_of listens) hs)
    unfolding run run_of
    same-run done z = refl
    same-run (takes {hs = hs} replies e s b m) z =
        ap (λ y. run_of strict a overall listens y.engine hs) (event-step strict a overall listens z replies e s) ∙
        same-run m (step few strict a overall z (event (event_of listens replies e))).engine
    same-run (ticks {t = t} {hs = hs} m) z =
        ap (λ y. run_of strict a overall listens y.engine hs) (tick-step strict a overall listens z t) ∙ same-run m
        (step few strict a overall z (tick t)).engine

    -- Any ticks between, a tick that is due at the end: what is decided is the list engine's answer, but for places in the reply bytes.
    pub apart : {es : List Event} {ts : List ℕ} {hs : List Handed} (last : ℕ) → length es ≤ 512 → Apart listens es ts hs
        → InOrder 0 (map (input_of listens) hs ++ (tick last ∷ []))
        → let engine = run_of strict a overall listens (waiting 0 (start a)) in
        Due overall (engine hs) last
        → (x : Answer) × (engine (hs ++ (now last ∷ [])) ≡ decided x) × (bare_answer x ≡ bare_answer (exchange strict a overall es))
    apart {es} {ts} {hs} last most m o d =
        let z = waiting 0 (start a) in
        let same = same-run m z in
        let ends = (driven few).answers strict a overall (heard hs) ts (map (input_of listens) hs) last (merged m) o (valid 0 (omega (arith, most)) m)
        (subst (λ (y : Engine). Due overall y last) same d) in (
          exchange strict a overall (heard hs),
          last-run strict a overall listens z hs last same ∙ ends,
          bare-exchange strict a overall (heard hs) ∙ ap (λ (ys : List Event). bare_answer (exchange strict a overall ys)) (alike m) ∙ sym
              (bare-exchange strict a overall es),
        )
