-- At most one result fits each public contract; and a refused step changes nothing.
use Prim.Native.Nat.{ℕ}
use native.Mathlib.Omega.{arith}
use mathlib.Core.Bool.{Bool, true, false, cond}
use mathlib.Core.Path.{◌≡◌, refl, sym, ◌∙◌, ap, subst⁻¹}
use mathlib.Core.List.{List}
use mathlib.Core.Option.{Option, none, some}
use lib.Dec.{leb, ltb}
use Rattle.std.specs.Prelude.{Result, Ok, Err}
use Rattle.rules.specs.Calls.{Call}
use Rattle.rules.specs.Events.{Entry, sound}
use Rattle.rules.specs.Exchange as exchange
use Rattle.exchange.specs.Places.{TurnsTo}
use Rattle.exchange.specs.declared.types.State.{State}
use Rattle.exchange.specs.declared.types.Timing.{Timing}
use Rattle.exchange.specs.declared.types.Turn.{Turn}
use Rattle.exchange.specs.declared.types.Turn.TheVariants.{On, Ends}
use Rattle.exchange.proofs.Unique.{turns-unique}
use Rattle.calls.specs.declared.Ask.{Ask}
use Rattle.calls.specs.declared.Answered.{Answered}
use Rattle.calls.proofs.Concluding.{concluded-unique}
use Rattle.calls.proofs.Whole.{unique}
use Rattle.wire.specs.Refusing.{refusal_number}
use Rattle.wire.specs.declared.refusal.Refusal.{Refusal}
use Rattle.wire.proofs.Refusals.{refusal_of, refusal-back, same-refusal}
use Rattle.steps.specs.declared.Engine.{Engine}
use Rattle.steps.specs.declared.Phase.{Phase}
use Rattle.steps.specs.declared.Phase.TheVariants as phase
use Rattle.steps.specs.Stepping.{Stepped, stepped_in, overall_in, past_of, refusing, going_on, late_of, taken, ticked, tick_of, without_turn, Behind, Turned, HandsTo, HandsIn, Hands, begun_by, Begins}

-- No refusal has the number 0.
pub never-zero : (r : Refusal) → refusal_number r ≡ 0 → ⊥
never-zero r e =
    let one : refusal_number r ≡ 1 = ap refusal_number (sym (refusal-back r) ∙ ap refusal_of e) in
    omega arith

-- At most one answer of the code is a step.
pub answer-unique : (e : Engine) (x y : Result Engine Refusal) → stepped_in e x ≡ stepped_in e y → x ≡ y
answer-unique e (Ok a) (Ok b) h = ap (λ (q : Stepped). Ok q.engine) h
answer-unique e (Ok a) (Err r) h = absurd (never-zero r (sym (ap (λ (q : Stepped). q.refusal) h)))
answer-unique e (Err r) (Ok a) h = absurd (never-zero r (ap (λ (q : Stepped). q.refusal) h))
answer-unique e (Err r) (Err s) h = ap Err (same-refusal r s (ap (λ (q : Stepped). q.refusal) h))

-- `begin` and `begin_alfid`
pub begin-unique : {session : Timing} {ask : Ask} {c : Call} {before : List ℕ} {e e' : Engine} {after after' : List ℕ} → Begins session ask c before e after → Begins session ask c before e' after'
    → (e ≡ e') × (after ≡ after')
begin-unique {session} {ask} k k' =
    let same = unique {strict = ask.strict} k.called k'.called in
    (k.engine ∙ ap (begun_by session ask) same.0 ∙ sym k'.engine, same.1)

module _ (replies : List ℕ) where
  module _ (e : Engine) (a s : List ℕ) (x : Entry) where
    behind-unique : (overall : Option ℕ) (begins : ℕ) (before : State) (turn : Turn) (z : exchange.Turn) (r r' : Stepped) → TurnsTo overall replies begins before turn z
        → Behind e x.time a s replies turn r → Behind e x.time a s replies turn r' → r ≡ r'
    behind-unique overall begins before (On next) z r r' t k k' = k ∙ sym k'
    behind-unique overall begins before (Ends y) z r r' t k k' =
        let same = concluded-unique replies k.1 k'.1 in
        k.2 ∙ ap (λ (q : Answered). taken x.time (phase.Settled q) e) same ∙ sym k'.2

    turned-unique : {now : State} {r r' : Stepped} → Turned e now a s x replies r → Turned e now a s x replies r' → r ≡ r'
    turned-unique {now} {r} {r'} k k' =
        behind-unique _ _ now k.turn _ r r' k.turns.means k.behind
        (subst⁻¹ (λ (y : Turn). Behind e x.time a s replies y r') (turns-unique replies k.turns k'.turns) k'.behind)

    -- `event`
    pub event-unique : {r r' : Stepped} → Hands e a s x replies r → Hands e a s x replies r' → r ≡ r'
    event-unique {r} {r'} k k' = go e.phase k.means k'.means
      where
        waiting : (now : State) (y : Option Stepped) → HandsTo e a s x replies now y r → HandsTo e a s x replies now y r' → r ≡ r'
        waiting now (some y) h h' = h ∙ sym h'
        waiting now none h h' = turned-unique h h'

        go : (p : Phase) → HandsIn e a s x replies p r → HandsIn e a s x replies p r' → r ≡ r'
        go (phase.Settled y) h h' = h ∙ sym h'
        go (phase.Waiting now) h h' = waiting now (without_turn e x replies now) h h'

    -- "An event or tick earlier than the last, or anything after it has settled, changes nothing", and so every step that is refused: every field stays.
    pub refused-event : {r : Stepped} → Hands e a s x replies r → (r.refusal ≡ 0 → ⊥) → r.engine ≡ e
    refused-event {r} k h = go e.phase k.means
      where
        is : {n : ℕ} → r ≡ refusing n e → r.engine ≡ e
        is q = ap (λ (y : Stepped). y.engine) q

        not : {t : ℕ} {p : Phase} → r ≡ taken t p e → r.engine ≡ e
        not q = absurd (h (ap (λ (y : Stepped). y.refusal) q))

        behind : (turn : Turn) → Behind e x.time a s replies turn r → r.engine ≡ e
        behind (On next) q = not q
        behind (Ends y) q = not q.2

        late : (now : State) (b : Bool) → HandsTo e a s x replies now (cond b (some (late_of x.time now e)) none) r → r.engine ≡ e
        late now true q = not q
        late now false q = behind q.turn q.behind

        order : (now : State) (full fits back late? : Bool)
            → HandsTo e a s x replies now
            (cond full (some (refusing 10 e)) (cond fits (cond back (some (refusing 20 e)) (cond late? (some (late_of x.time now e)) none)) (some (refusing 10 e)))) r → r.engine ≡ e
        order now true fits back b q = is q
        order now false false back b q = is q
        order now false true true b q = is q
        order now false true false b q = late now b q

        go : (p : Phase) → HandsIn e a s x replies p r → r.engine ≡ e
        go (phase.Settled y) q = is q
        go (phase.Waiting now) q = order now (leb 512 now.read.all) (sound replies x) (ltb x.time e.last) (past_of (overall_in e) now.deadline x.time) q

pub refused-tick : (e : Engine) (t : ℕ) → ((tick_of e t).refusal ≡ 0 → ⊥) → (tick_of e t).engine ≡ e
refused-tick e t h = go e.phase h
  where
    order : (now : State) (back late : Bool) → let y = cond back (refusing 20 e) (cond late (late_of t now e) (going_on t now e)) in (y.refusal ≡ 0 → ⊥) → y.engine ≡ e
    order now true late k = refl
    order now false true k = absurd (k refl)
    order now false false k = absurd (k refl)

    go : (p : Phase) → ((ticked e t p).refusal ≡ 0 → ⊥) → (ticked e t p).engine ≡ e
    go (phase.Settled x) k = refl
    go (phase.Waiting now) k = order now (ltb t e.last) (past_of (overall_in e) now.deadline t) k
