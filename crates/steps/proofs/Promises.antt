-- What the engine promises: handed the events of a list that is not refused and any ticks, it gives the list engine's answer; one result fits each contract; a refused step changes nothing.
use Prim.Native.Nat.{ℕ, ◌≤◌}
use native.Mathlib.Omega.{arith}
use mathlib.Core.Bool.{Bool, true, false, cond}
use mathlib.Core.Path.{◌≡◌, refl, sym, ◌∙◌, ap, subst, subst⁻¹}
use mathlib.Core.List.{List, [], ◌∷◌, ◌++◌, map}
use mathlib.Core.Option.{Option, none, some}
use lib.Dec.{leb, eqb}
use lib.ListN.{length}
use borrow.Author.Tests.{eqb-true, eqb-false}
use Rattle.rules.specs.After.{after}
use Rattle.rules.specs.Answers as answers
use Rattle.rules.specs.Calls as rules
use Rattle.rules.specs.Bytes.{every}
use Rattle.rules.specs.Calls.{sid_of, with_bit7, request_of}
use Rattle.rules.specs.Client.{Result, asked, entries_in, events_in, refuse, answered, call}
use Rattle.rules.specs.Events.{Entry, Form, plain, addressed, entries_from, event_of, up_to, sound, within_limits}
use Rattle.rules.specs.Exchange as exchange
use Rattle.rules.specs.Exchange.{start, silence, under}
use Rattle.rules.specs.Settings.{Setting, Lent}
use Rattle.rules.specs.Demand3.{Refused}
use Rattle.rules.proofs.Unrefused.{exchange-unrefused}
use Rattle.stepwise.specs.Engine as wise
use Rattle.stepwise.specs.Engine.{waiting, decided, tick}
use Rattle.stepwise.specs.Driven as driven
use Rattle.stepwise.specs.Driven.{InOrder}
use Rattle.stepwise.specs.Handed.{Handed, lent, now, input_of, run_of, Handing, done, takes, ticks}
use Rattle.stepwise.proofs.Handed.{handled, run_of-append}
use Rattle.exchange.specs.Meaning.{form_of, asked_of, option_of, outcome_of}
use Rattle.exchange.specs.Places.{Answers}
use Rattle.exchange.specs.States.{state_of, start_of}
use Rattle.exchange.specs.declared.types.State.{State}
use Rattle.exchange.specs.declared.types.Timing.{Timing}
use Rattle.requests.specs.Meaning.{call_of}
use Rattle.requests.specs.Parameters.{bit7}
use Rattle.requests.specs.Rows.{row_of}
use Rattle.requests.specs.Prepared.{refusal_of, prepared_of, ready_of, over}
use Rattle.requests.specs.declared.Prepared.{Prepared}
use Rattle.requests.proofs.Callers.{refusal_is, is-prepared, none-of-nine, sends, writes}
use Rattle.requests.proofs.Refusals as refusing
use Rattle.requests.proofs.Table.{sid-is, sub_is, sent-sub}
use Rattle.std.specs.Prelude as returned
use Rattle.std.specs.Prelude.{Ok, Err}
use Rattle.calls.specs.Concluded.{Concluded}
use Rattle.calls.specs.Meaning.{setting_of, lent_of, refused_of, is_refused, Called}
use Rattle.calls.specs.declared.Ask.{Ask}
use Rattle.calls.specs.declared.Answered.{Answered}
use Rattle.calls.proofs.Running.{Given, refused-test, refused-anywhere, turned-away, carried-out, opens}
use Rattle.calls.proofs.Whole.{unique}
use Rattle.steps.specs.declared.Begun.{Begun}
use Rattle.steps.specs.declared.Engine.{Engine}
use Rattle.steps.specs.declared.Phase.{Phase}
use Rattle.steps.specs.declared.Phase.TheVariants.{Waiting, Settled}
use Rattle.steps.specs.Running.{Steps, Due}
use Rattle.steps.specs.Stepping.{Stepped, asked_in, ticked, tick_of, HandsIn, Hands, begun_by, Begins}
use Rattle.steps.proofs.Standing.{Decided, Stands, tick-stands, event-stands}

-- A run stands for the definition's run.
module _ (b : Begun) (a s replies : List ℕ) where
  abbrev runs : wise.Engine → List Handed → wise.Engine
  runs = run_of b.ask.strict (asked_of (asked_in b)) (option_of b.ask.overall) b.ask.channel.listens

  pub run-stands : {es : List Entry} {ts : List ℕ} {hs : List Handed} → Handing replies es ts hs → (e : Engine) (z : wise.Engine) (e' : Engine)
      → Stands b a s replies e z → Steps a s hs e e' → Stands b a s replies e' (runs z hs)
  unfolding run_of
  run-stands done e z e' h k = subst (λ (q : Engine). Stands b a s replies q z) k h
  run-stands (takes {e = x} m) e z e' h k = run-stands m k.0.engine _ e' (event-stands b a s replies e z h x k.1).1 k.2
  run-stands (ticks {t = t} m) e z e' h k = run-stands m (tick_of e t).engine _ e' (tick-stands b a s replies e z h t).1 k

  due-stands : (e : Engine) (z : wise.Engine) (t : ℕ) → Stands b a s replies e z → Due e t → driven.Due (option_of b.ask.overall) z t
  due-stands e (waiting last z) t h d = subst (λ (q : Engine). Due q t) h.0 d
  due-stands e (decided y) t h d = tt

-- An engine that has settled stays as it is.
module _ (a s : List ℕ) where
  pub stays : (hs : List Handed) (e e' : Engine) {x : Answered} → e.phase ≡ Settled x → Steps a s hs e e' → e ≡ e'
  stays [] e e' p k = k
  stays (lent replies y ∷ hs) e e' p k =
      let same : k.0.engine ≡ e = ap (λ (q : Stepped). q.engine) (settled-hands k.1) in
      sym same ∙ stays hs k.0.engine e' (ap (λ (q : Engine). q.phase) same ∙ p) k.2
    where
      settled-hands : {r : Stepped} → Hands e a s y replies r → r ≡ record { refusal = 21; engine = e }
      settled-hands {r} h = subst (λ (q : Phase). HandsIn e a s y replies q r) p h.means
  stays (now t ∷ hs) e e' p k =
      let same : (tick_of e t).engine ≡ e = ap (λ (q : Phase). (ticked e t q).engine) p in
      sym same ∙ stays hs (tick_of e t).engine e' (ap (λ (q : Engine). q.phase) same ∙ p) k

-- What the silent exchange answers is no refusal.
quiet-outcome : (strict : Bool) (c : rules.Call) (overall : Option ℕ) (z : exchange.State) → is_refused (after strict c (under overall (silence z))).outcome ≡ false
quiet-outcome strict c overall z = go overall z.hush
  where
    at : Bool → exchange.Settled
    at hush = silence (exchange.state hush z.deadline z.read z.notices)

    within : (hush : Bool) → is_refused (after strict c (exchange.counted (at hush))).outcome ≡ false
    within true = refl
    within false = refl

    go : (over : Option ℕ) (hush : Bool) → is_refused (after strict c (under over (at hush))).outcome ≡ false
    go none hush = within hush
    go (some t) hush = cut (leb z.deadline t)
      where
        cut : (k : Bool)
            → is_refused (after strict c (cond k (exchange.counted (at hush)) (answers.answer answers.timeout t (up_to t (at hush).read) (up_to t (at hush).notices) answers.nowhere))).outcome ≡ false
        cut true = within hush
        cut false = refl

no-events : (form : Form) (listens : ℕ) (buffer : List ℕ) → events_in (record { buffer = buffer; form = form; events = []; replies = []; listens = listens }) ≡ []
unfolding entries_from
no-events plain listens buffer = refl
no-events addressed listens buffer = refl

no-limit-broken : (form : Form) → within_limits form [] [] ≡ true
unfolding within_limits entries_from
no-limit-broken plain = refl
no-limit-broken addressed = refl

started : (a : exchange.Asked) (overall : Option ℕ) → start_of a ≡ state_of overall (start a)
started a none = refl
started a (some overall) = refl

never : (o : answers.Outcome) → ¬ Refused o → is_refused o ≡ false
never o h = go (is_refused o) refl
  where
    go : (k : Bool) → is_refused o ≡ k → k ≡ false
    go true e = absurd (h (refused-test o e))
    go false e = refl

-- An engine waits, with one state, or has settled.
abbrev IsWaiting : Phase → Type 0
IsWaiting (Waiting z) = Unit {0}
IsWaiting (Settled x) = ⊥

abbrev state_in : State → Phase → State
state_in y (Waiting z) = z
state_in y (Settled x) = y

waiting-once : {y z : State} → Waiting y ≡ Waiting z → y ≡ z
waiting-once {y} e = ap (state_in y) e

-- One call, begun and handed its list with any ticks, beside the call over the list.
module _ (session : Timing) (ask : Ask) (a s d before : List ℕ) where
  abbrev c : rules.Call
  c = call_of ask.call a s d

  abbrev w : Setting
  w = setting_of ask session

  -- The call with these events and replies.
  abbrev given : List ℕ → List ℕ → Given
  given events replies = record { session = session; ask = ask; a = a; s = s; d = d; lent = lent_of ask.channel before events replies }

  -- The number that refuses it by its arguments or its size, 0 where none does.
  abbrev pub number : ℕ
  number = refusal_of ask.quiet c (length before)

  -- `prepare` refuses it so.
  abbrev pub Refuses : ℕ → Type 0
  Refuses n = Err n ≡ prepared_of ask.call ask.quiet a s d (length before)

  -- What `prepare` says of it where nothing refuses it.
  abbrev p : Prepared
  p = ready_of ask.call ask.quiet a s d

  -- The exchange is asked with the call's SID and sub-function.
  asks-are : (n : ℕ) → asked_of (asked_in (record { ask = ask; session = session; sent = n })) ≡ asked w c
  asks-are n =
      let k = ask.call in
      let sid : (row_of k).sid ≡ sid_of c = sym (sid-is (rules.given a) (rules.given s) d k) in
      let sub : option_of (bit7 ask.quiet (row_of k).sub) ≡ with_bit7 ask.quiet (rules.sub_of c) =
      sent-sub ask.quiet (row_of k).sub ∙ ap (with_bit7 ask.quiet) (sym (sub_is (rules.given a) (rules.given s) d k))
      in
      λ i. record { sid = sid i; sub = sub i; timing = w.timing; limit = w.limit }

  -- Refused by its arguments or its size, the engine has settled as the call answers, whatever is lent.
  pub refused-alike : {e after : _} (n : ℕ) → Refuses n → Begins session ask c before e after → (e.phase ≡ Settled (refused_of session n)) × (after ≡ before)
  refused-alike {e} {after} n h k =
      let same = unique {strict = ask.strict} k.called (turned-away (given [] []) n h) in
      (ap (λ (q : Engine). q.phase) k.engine ∙ ap (λ (q : Answered). (begun_by session ask q).phase) same.0, same.1)

  abbrev quietly : Lent
  quietly = lent_of ask.channel before [] []

  -- A number that is not 0 is `prepare`'s refusal.
  pub refuses-so : {e after : _} → (number ≡ 0 → ⊥) → Begins session ask c before e after → (n : ℕ) × Refuses n
  refuses-so {e} {after} h k = (number, sayings (prepared_of ask.call ask.quiet a s d (length before)) refl)
    where
      sayings : (x : returned.Result Prepared ℕ) → x ≡ prepared_of ask.call ask.quiet a s d (length before) → Err number ≡ prepared_of ask.call ask.quiet a s d (length before)
      sayings (Ok x) e = absurd (h (none-of-nine ask.call ask.quiet a s d before e))
      sayings (Err n) e = ap Err (sym (refusal_is ask.call ask.quiet a s d (length before) e).0) ∙ e

  -- Else it has sent the request, and waits.
  module _ (none_yet : number ≡ 0) {e : Engine} {after' : List ℕ} (k : Begins session ask c before e after') where
    abbrev request : List ℕ
    request = request_of ask.quiet c

    ready : Ok p ≡ prepared_of ask.call ask.quiet a s d (length before)
    ready = is-prepared ask.call ask.quiet a s d (length before) none_yet

    silent-is : call ask.strict w c quietly ≡ answered w c quietly request (after ask.strict c (exchange.exchange ask.strict (asked w c) w.overall (events_in quietly)))
    unfolding call
    silent-is = refusing.accepted (refuse w quietly) ask.quiet c before quietly.form [] [] _ number refl none_yet (no-limit-broken quietly.form)

    sent : k.unheard.sent ≡ length request
    sent = ap (λ (q : Result). q.sent) (k.called.means ∙ silent-is)

    pub written : after' ≡ over request before
    written = ap (λ (q : Result). q.buffer) (k.called.means ∙ silent-is)

    unrefused : is_refused (outcome_of [] k.unheard.answer.outcome) ≡ false
    unfolding exchange.exchange exchange.settle
    unrefused =
        ap (λ (q : Result). is_refused q.answer.outcome) (k.called.means ∙ silent-is) ∙
        ap (λ es. is_refused (after ask.strict c (exchange.exchange ask.strict (asked w c) w.overall es)).outcome) (no-events quietly.form quietly.listens before) ∙
        quiet-outcome ask.strict c w.overall (start (asked w c))

    abbrev begun : Begun
    begun = record { ask = ask; session = session; sent = k.unheard.sent }

    begins : e ≡ record { begun = begun; last = 0; phase = Waiting (start_of (asked_of (asked_in begun))) }
    begins = k.engine ∙ ap (λ (q : Bool). record { begun = begun; last = 0; phase = cond q (Settled k.unheard) (Waiting (start_of (asked_of (asked_in begun)))) }) unrefused

    module _ (events replies : List ℕ) (within : within_limits (form_of ask.channel.form) events replies ≡ true) where
      abbrev l : Lent
      l = lent_of ask.channel before events replies

      abbrev reached : exchange.Asked → answers.Answer
      reached x = exchange.exchange ask.strict x w.overall (events_in l)

      -- What is decided with the exchange's answer is the call's answer.
      finished : {x : Answered} → Decided begun a s replies x (reached (asked_of (asked_in begun))) → Called ask.strict w c l x after'
      finished {x} dec =
          let exchanged = subst⁻¹ (Answers replies dec.heard) (opens ask.strict (asked_of (asked_in begun)) w.overall l within) dec.answers in
          let heard : is_refused (outcome_of [] dec.heard.outcome) ≡ false =
          refused-anywhere replies dec.heard.outcome ∙
          ap (λ (y : answers.Answer). is_refused y.outcome) dec.answers.means ∙
          never (reached (asked_of (asked_in begun))).outcome (exchange-unrefused ask.strict (asked_of (asked_in begun)) w.overall (events_in l))
          in
          let long = sent ∙ sym (sends ask.call ask.quiet a s d before ready) in
          subst⁻¹ (Called ask.strict w c l x) written
          (carried-out (given events replies) ready exchanged (sym heard) refl (writes ask.call ask.quiet a s d before ready)
          (subst (λ n. Concluded session ask n a s replies dec.heard x) long dec.concluded))

      -- The engine that is handed the list and any ticks in time order, and a tick that is due, has decided the call's answer.
      decides : {ts : List ℕ} {hs : List Handed} (last : ℕ) (e' : Engine) → Handing replies (entries_in l) ts hs → InOrder 0 (map (input_of l.listens) hs ++ (tick last ∷ [])) → Steps a s hs e e'
          → Due e' last → (x : Answered) × ((tick_of e' last).engine.phase ≡ Settled x) × Called ask.strict w c l x after'
      decides {hs = hs} last e' m o k' due =
          let asks = asked_of (asked_in begun) in
          let z = waiting 0 (start asks) in
          let first : Stands begun a s replies e z = (begins ∙ ap (λ q. record { begun = begun; last = 0; phase = Waiting q }) (started asks w.overall), omega arith, omega arith) in
          let behind = runs begun a s replies z hs in
          let ran = run-stands begun a s replies m e z e' first k' in
          let ticked' = (tick-stands begun a s replies e' behind ran last).1 in
          let ends = handled.exchanges ask.strict asks w.overall l _ hs last within m o (due-stands begun a s replies e' behind last ran due) in
          let same = sym (run_of-append ask.strict asks w.overall l.listens z hs (now last)) ∙ ends in
          let stands = subst (Stands begun a s replies (tick_of e' last).engine) same ticked' in
          (stands.1, ap (λ (q : Engine). q.phase) stands.2, finished stands.3)

  -- Request Eleven: "Driven with any valid list and ticks, merged in time order and ending with a tick past its deadline, it gives the list engine's answer": what it has decided is the call's, refused or not.
  pub answers-so : {e after' : _} {events replies : List ℕ} {ts : List ℕ} {hs : List Handed} (last : ℕ) (e' : Engine)
      → within_limits (form_of ask.channel.form) events replies ≡ true → let l = lent_of ask.channel before events replies in
      Begins session ask c before e after' → Handing replies (entries_in l) ts hs → InOrder 0 (map (input_of l.listens) hs ++ (tick last ∷ [])) → Steps a s hs e e' → Due e' last
      → (x : Answered) × ((tick_of e' last).engine.phase ≡ Settled x) × Called ask.strict w c l x after'
  answers-so {e} {after'} {events} {replies} {ts} {hs} last e' within k m o k' due = go (eqb number 0) refl
    where
      go : (z : Bool) → eqb number 0 ≡ z → (x : Answered) × ((tick_of e' last).engine.phase ≡ Settled x) × Called ask.strict w c (lent_of ask.channel before events replies) x after'
      go true z = decides (eqb-true number 0 z) k events replies within last e' m o k' due
      go false z =
          let refused = eqb-false number 0 z in
          let r = refuses-so refused k in
          let first = refused-alike r.0 r.1 k in
          let rests = stays a s hs e e' first.0 k' in
          let phase = ap (λ (q : Engine). q.phase) (sym rests) ∙ first.0 in (
            refused_of session r.0,
            ap (λ (q : Phase). (ticked e' last q).engine.phase) phase ∙ phase,
            subst⁻¹ (Called ask.strict w c (lent_of ask.channel before events replies) (refused_of session r.0)) first.1 (turned-away (given events replies) r.0 r.1),
          )

  -- The answer, counts, finishing time, number and session timing, and the request, are those of any call over the same list.
  pub same_answer : {e after' : _} {events replies : List ℕ} {ts : List ℕ} {hs : List Handed} {r : Answered} {b : List ℕ} (last : ℕ) (e' : Engine)
      → within_limits (form_of ask.channel.form) events replies ≡ true → let l = lent_of ask.channel before events replies in
      Begins session ask c before e after' → Handing replies (entries_in l) ts hs → InOrder 0 (map (input_of l.listens) hs ++ (tick last ∷ [])) → Steps a s hs e e' → Due e' last
      → Called ask.strict w c l r b → ((tick_of e' last).engine.phase ≡ Settled r) × (after' ≡ b)
  same_answer last e' within k m o k' due called =
      let x = answers-so last e' within k m o k' due in
      let same = unique {strict = ask.strict} x.2 called in
      (x.1 ∙ ap Settled same.0, same.1)

  -- What an engine that waits knows: the deadline and the counts of the state that the events leave, one turn after the other.
  pub knows : {e after' : _} {replies : List ℕ} {es : List Entry} {ts : List ℕ} {hs : List Handed} (e' : Engine) (now' : State) → Begins session ask c before e after'
      → every (sound replies) es ≡ true → length es ≤ 512 → Handing replies es ts hs → InOrder 0 (map (input_of ask.channel.listens) hs) → Steps a s hs e e' → e'.phase ≡ Waiting now'
      → (z : exchange.State) × (driven.turns ask.strict (asked w c) (map (event_of ask.channel.listens replies) es) (start (asked w c)) ≡ exchange.on z) × (now' ≡ state_of w.overall z)
  knows {e} {after'} {replies} {es} {ts} {hs} e' now' k sounds most m o k' waits = go (eqb number 0) refl
    where
      Known : Type 0
      Known = (z : exchange.State) × (driven.turns ask.strict (asked w c) (map (event_of ask.channel.listens replies) es) (start (asked w c)) ≡ exchange.on z) × (now' ≡ state_of w.overall z)

      of : (y : wise.Engine) → (b : Begun) → option_of b.ask.overall ≡ w.overall → Stands b a s replies e' y
          → driven.Means ask.strict (asked w c) w.overall (start (asked w c)) (map (event_of ask.channel.listens replies) es) (driven.clock 0 (map (input_of ask.channel.listens) hs)) y → Known
      of (waiting last z) b same stands means =
          (z, means.1, waiting-once (sym waits ∙ ap (λ (q : Engine). q.phase) stands.0) ∙ ap (λ (t : Option ℕ). state_of t z) same)
      of (decided x) b same stands means = absurd (subst IsWaiting (sym waits ∙ ap (λ (q : Engine). q.phase) stands.2) tt)

      go : (z : Bool) → eqb number 0 ≡ z → Known
      go true z =
          let none_yet = eqb-true number 0 z in
          let b : Begun = record { ask = ask; session = session; sent = k.unheard.sent } in
          let asks = asked_of (asked_in b) in
          let first : Stands b a s replies e (waiting 0 (start asks)) =
          (begins none_yet k ∙ ap (λ q. record { begun = b; last = 0; phase = Waiting q }) (started asks w.overall), omega arith, omega arith)
          in
          let ran = run-stands b a s replies m e (waiting 0 (start asks)) e' first k' in
          let means = handled.prefix ask.strict asks w.overall ask.channel.listens replies es ts hs sounds most m o in
          of (runs b a s replies (waiting 0 (start asks)) hs) b refl ran
          (subst (λ (q : exchange.Asked). driven.Means ask.strict q w.overall (start q) (map (event_of ask.channel.listens replies) es) (driven.clock 0 (map (input_of ask.channel.listens) hs)) (runs b a s replies (waiting 0 (start asks)) hs)) (asks-are k.unheard.sent) means)
      go false z =
          let r = refuses-so (eqb-false number 0 z) k in
          let first = refused-alike r.0 r.1 k in
          absurd (subst IsWaiting (sym waits ∙ ap (λ (q : Engine). q.phase) (sym (stays a s hs e e' first.0 k')) ∙ first.0) tt)
