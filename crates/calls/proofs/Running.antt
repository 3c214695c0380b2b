-- A whole call in its three ways: refused by its arguments or its size, refused by its events, or answered.
use Prim.Native.Nat.{ℕ}
use native.Mathlib.Omega.{arith}
use mathlib.Core.Bool.{Bool, true, false, cond, ◌||◌, ◌&&◌, false≢true, true≢false}
use mathlib.Core.Path.{◌≡◌, refl, sym, ◌∙◌, ap, subst, subst⁻¹}
use mathlib.Core.List.{List, []}
use mathlib.Core.Option.{Option}
use lib.Dec.{eqb}
use Rattle.std.specs.Prelude.{Ok, Err, Some, None}
use Rattle.std.specs.Prelude as returned
use lib.ListN.{length, take}
use Rattle.rules.specs.After.{checked, after, number_of, adopted, timing_of}
use Rattle.rules.specs.Answers.{Outcome, positive, suppressed, negative, timeout, pending_limit, disconnected, transport, fault, refused, if_positive}
use Rattle.rules.specs.Answers as answers
use Rattle.rules.specs.Bytes.{value}
use Rattle.rules.specs.Calls as rules
use Rattle.rules.specs.Calls.{sid_of, with_bit7, request_of}
use Rattle.rules.specs.Client.{Result, asked, events_in, refuse, answered, call}
use Rattle.rules.specs.Demand3.{Refused}
use Rattle.rules.specs.Events.{within_limits}
use Rattle.rules.specs.Exchange as exchange
use Rattle.rules.specs.Settings as settings
use Rattle.rules.specs.Settings.{Setting, Lent}
use Rattle.rules.proofs.Inside.{Headed, exchange-headed}
use Rattle.rules.proofs.Unrefused.{exchange-unrefused}
use Rattle.exchange.specs.Guarded.{guarded}
use Rattle.exchange.specs.Meaning.{part_of, outcome_of, answer_of, asked_of, option_of, timed}
use Rattle.exchange.specs.Places.{Inside, Answers}
use Rattle.exchange.specs.declared.types.Answer.{Answer}
use Rattle.exchange.specs.declared.types.Outcome as outcome
use Rattle.exchange.specs.declared.types.Outcome.TheVariants as variant
use Rattle.exchange.specs.declared.types.Place.{Place}
use Rattle.exchange.specs.declared.types.Timing.{Timing}
use Rattle.requests.specs.declared.Call.{Call}
use Rattle.requests.specs.declared.Prepared.{Prepared}
use Rattle.requests.specs.Meaning.{call_of, bare}
use Rattle.requests.specs.Prepared.{first, sizes, refusal_of, prepared_of, over, pieces_of, Written}
use Rattle.requests.specs.Rows.{row_of}
use Rattle.requests.proofs.Callers.{refusal_is, passes, none-of-nine, is-ready, sends, stands}
use Rattle.requests.proofs.Refusals as refusing
use Rattle.requests.proofs.Table.{number_is, sid-is, sub_is, sent-sub}
use Rattle.checks.specs.Answered as checking
use Rattle.checks.specs.Answered.{fitting}
use Rattle.checks.proofs.Inside.{as-sent, as-checked, checked-beside, number-fitting}
use Rattle.calls.specs.Concluded.{Concluded}
use Rattle.calls.specs.Meaning.{setting_of, lent_of, result_of, refused_of, is_refused, Called, Writes}
use Rattle.calls.specs.declared.Ask.{Ask}
use Rattle.calls.specs.declared.Answered.{Answered}

-- Whether an outcome is a refusal, as a test and as a type.
pub refused-test : (o : Outcome) → is_refused o ≡ true → Refused o
refused-test (positive p) e = absurd (false≢true e)
refused-test suppressed e = absurd (false≢true e)
refused-test (negative n) e = absurd (false≢true e)
refused-test timeout e = absurd (false≢true e)
refused-test disconnected e = absurd (false≢true e)
refused-test (transport n) e = absurd (false≢true e)
refused-test (fault f) e = absurd (false≢true e)
refused-test (refused n) e = tt
refused-test pending_limit e = absurd (false≢true e)

-- It is one wherever its data stands.
pub refused-anywhere : (l : List ℕ) (o : outcome.Outcome) → is_refused (outcome_of [] o) ≡ is_refused (outcome_of l o)
refused-anywhere l (variant.PositiveResponse p) = refl
refused-anywhere l variant.Suppressed = refl
refused-anywhere l (variant.NegativeResponse n) = refl
refused-anywhere l variant.Timeout = refl
refused-anywhere l variant.Disconnected = refl
refused-anywhere l (variant.Transport n) = refl
refused-anywhere l (variant.Fault f) = refl
refused-anywhere l (variant.Refused n) = refl
refused-anywhere l variant.PendingLimit = refl

-- The exchange is refused exactly where the events break a limit.
module _ (strict : Bool) (a : exchange.Asked) (overall : Option ℕ) (l : Lent) where
  pub breaks : is_refused (guarded strict a overall l.form l.listens l.events l.replies).outcome ≡ true → within_limits l.form l.events l.replies ≡ false
  unfolding guarded
  breaks = go (within_limits l.form l.events l.replies)
    where
      go : (b : Bool) → is_refused (cond b (exchange.exchange strict a overall (events_in l)) (answers.refusal 10)).outcome ≡ true → b ≡ false
      go true e = absurd (exchange-unrefused strict a overall (events_in l) (refused-test (exchange.exchange strict a overall (events_in l)).outcome e))
      go false e = refl

  pub keeps : is_refused (guarded strict a overall l.form l.listens l.events l.replies).outcome ≡ false → within_limits l.form l.events l.replies ≡ true
  unfolding guarded
  keeps = go (within_limits l.form l.events l.replies)
    where
      go : (b : Bool) → is_refused (cond b (exchange.exchange strict a overall (events_in l)) (answers.refusal 10)).outcome ≡ false → b ≡ true
      go true e = refl
      go false e = absurd (true≢false e)

  pub opens : within_limits l.form l.events l.replies ≡ true → guarded strict a overall l.form l.listens l.events l.replies ≡ exchange.exchange strict a overall (events_in l)
  unfolding guarded
  opens h = rw h

-- The checks of a reply that was read as a positive are those of `rules`: its data lies in the lent bytes.
lent-outcome : (strict quiet : Bool) (c : rules.Call) (replies : List ℕ) (place : Place) (q : Outcome) → let p = part_of replies place in Headed (with_bit7 quiet (rules.sub_of c)) p q
    → if_positive q (λ x. checking.answered replies (checked strict c p)) q ≡ if_positive q (λ x. checked strict c p) q
lent-outcome strict quiet c replies place (positive x) h = as-checked strict quiet replies place c h
lent-outcome strict quiet c replies place suppressed h = refl
lent-outcome strict quiet c replies place (negative n) h = refl
lent-outcome strict quiet c replies place timeout h = refl
lent-outcome strict quiet c replies place disconnected h = refl
lent-outcome strict quiet c replies place (transport n) h = refl
lent-outcome strict quiet c replies place (fault f) h = refl
lent-outcome strict quiet c replies place (refused n) h = refl
lent-outcome strict quiet c replies place pending_limit h = refl

-- A call's number does not depend on what stands beside it, and so neither do the number that it returns and the timing that it sets.
module _ (k : Call) (a s d : List ℕ) (o : Outcome) where
  same_number : rules.numbered (bare k) ≡ rules.numbered (call_of k a s d)
  same_number = number_is (rules.given []) (rules.given []) [] k ∙ sym (number_is (rules.given a) (rules.given s) d k)

  number-beside : number_of (bare k) o ≡ number_of (call_of k a s d) o
  number-beside = ap (λ (n : ℕ). cond (eqb n 11 || eqb n 12) (if_positive o (λ x. value x.bytes) 0) 0) same_number

  timing-beside : (server : Bool) (old : settings.Timing) → timing_of server (bare k) o old ≡ timing_of server (call_of k a s d) o old
  timing-beside server old = ap (λ (n : ℕ). cond (eqb n 1 && server) (if_positive o (λ x. adopted x.bytes old) old) old) same_number

-- What a whole call is given: the session, what is asked, address, size and data, and what is lent.
pub record Given : Type 0 where
  pub session : Timing
  pub ask : Ask
  pub a : List ℕ
  pub s : List ℕ
  pub d : List ℕ
  pub lent : Lent

-- The same of what a call of `run` lends.
-- There is always a buffer that is left.
pub written_by : (p : returned.Option Prepared) (a s d before : List ℕ) → (after : List ℕ) × Writes p a s d before after
written_by None a s d before = (before, refl)
written_by (Some p) a s d before =
    let bytes = pieces_of p a s d in
    let done = eqb (first (sizes (length bytes) (length before))) 0 in
    (cond done (over bytes before) before, (done, record { told = refl; buffer = refl }))

abbrev pub given-of : Timing → Ask → List ℕ → List ℕ → List ℕ → List ℕ → List ℕ → List ℕ → Given
given-of session ask request a s d events replies = record {
  session = session;
  ask = ask;
  a = a;
  s = s;
  d = d;
  lent = lent_of ask.channel request events replies;
}

module _ (g : Given) where
  abbrev session : Timing
  session = g.session

  abbrev ask : Ask
  ask = g.ask

  abbrev c : rules.Call
  c = call_of ask.call g.a g.s g.d

  abbrev w : Setting
  w = setting_of ask session

  abbrev l : Lent
  l = g.lent

  abbrev judged : exchange.Asked → answers.Answer
  judged x = guarded ask.strict x w.overall l.form l.listens l.events l.replies

  abbrev reached : answers.Answer
  reached = exchange.exchange ask.strict (asked w c) w.overall (events_in l)

  abbrev right : Result
  right = answered w c l (request_of ask.quiet c) (after ask.strict c reached)

  -- What `prepare` says of it.
  abbrev Prepares : returned.Result Prepared ℕ → Type 0
  Prepares r = r ≡ prepared_of ask.call ask.quiet g.a g.s g.d (length l.buffer)

  pub turned-away : (n : ℕ) → Prepares (Err n) → Called ask.strict w c l (refused_of session n) l.buffer
  unfolding call
  turned-away n is =
      let told = refusal_is ask.call ask.quiet g.a g.s g.d (length l.buffer) is in
      record {
        means = sym (refusing.refused (refuse w l) ask.quiet c l.buffer l.form l.events l.replies right n told.0 told.1);
        outcome = tt;
        reply = omega arith;
      }

  module _ {p : Prepared} (is : Prepares (Ok p)) where
    told : 0 ≡ refusal_of ask.quiet c (length l.buffer)
    told = sym (none-of-nine ask.call ask.quiet g.a g.s g.d l.buffer is)

    module _ {heard : Answer} (exchanged : Answers l.replies heard (judged (asked_of (record { sid = p.sid; sub = p.sub; timing = session; limit = ask.limit })))) where
      -- The exchange was asked with the call's SID and sub-function.
      answers-it : Answers l.replies heard (judged (asked w c))
      answers-it =
          let ready = is-ready ask.call ask.quiet g.a g.s g.d l.buffer is in
          let k = ask.call in
          let sid : p.sid ≡ sid_of c = ap (λ (q : Prepared). q.sid) ready ∙ sym (sid-is (rules.given g.a) (rules.given g.s) g.d k) in
          let sub : option_of p.sub ≡ with_bit7 ask.quiet (rules.sub_of c) =
          ap (λ (q : Prepared). option_of q.sub) ready ∙
          sent-sub ask.quiet (row_of k).sub ∙
          ap (with_bit7 ask.quiet) (sym (sub_is (rules.given g.a) (rules.given g.s) g.d k))
          in
          subst (λ (x : exchange.Asked). Answers l.replies heard (judged x)) (λ i. record { sid = sid i; sub = sub i; timing = timed session; limit = w.limit }) exchanged

      outcome-heard : outcome_of l.replies heard.outcome ≡ (judged (asked w c)).outcome
      outcome-heard = ap (λ (x : answers.Answer). x.outcome) answers-it.means

      tested : {b : Bool} → b ≡ is_refused (outcome_of [] heard.outcome) → is_refused (judged (asked w c)).outcome ≡ b
      tested e = ap is_refused (sym outcome-heard) ∙ sym (refused-anywhere l.replies heard.outcome) ∙ sym e

      pub turned-by-events : {b : Bool} → b ≡ is_refused (outcome_of [] heard.outcome) → b ≡ true → Called ask.strict w c l (refused_of session 10) l.buffer
      unfolding call
      turned-by-events e h =
          let broken = breaks ask.strict (asked w c) w.overall l (tested e ∙ h) in
          record {
            means = sym (refusing.outside (refuse w l) ask.quiet c l.buffer l.form l.events l.replies right 0 told refl broken);
            outcome = tt;
            reply = omega arith;
          }

      pub carried-out : {b done : Bool} {after' : List ℕ} {r : Answered} → b ≡ is_refused (outcome_of [] heard.outcome) → b ≡ false
          → Written (pieces_of p g.a g.s g.d) l.buffer done after' → Concluded session ask p.length g.a g.s l.replies heard r
          → Called ask.strict w c l r after'
      unfolding call
      carried-out {after' = after'} {r = r} e h writes k =
          let strict = ask.strict in
          let kept = keeps strict (asked w c) w.overall l (tested e ∙ h) in
          let is-reached : answer_of l.replies heard ≡ reached = answers-it.means ∙ opens strict (asked w c) w.overall l kept in
          let p' = part_of l.replies heard.reply in
          let q = outcome_of l.replies heard.outcome in
          let headed : Headed (asked w c).sub p' q = subst⁻¹ (λ (x : answers.Answer). Headed (asked w c).sub x.reply x.outcome) is-reached (exchange-headed strict (asked w c) w.overall (events_in l)) in
          let none_of = none-of-nine ask.call ask.quiet g.a g.s g.d l.buffer is in
          let full : checked strict (checking.asked ask.call g.a g.s) p' ≡ checked strict c p' =
          checked-beside strict (take 15 g.a) (take 15 g.s) g.d ask.call p' ∙
          ap (λ (y : rules.Call). checked strict y p') (as-sent ask.call g.a g.s g.d (passes ask.quiet c (length l.buffer) none_of).0)
          in
          let outcome : outcome_of l.replies r.answer.outcome ≡ if_positive q (λ x. checked strict c p') q =
          k.outcome.means ∙
          ap (λ (o : Outcome). if_positive q (λ x. checking.answered l.replies o) q) full ∙
          lent-outcome strict ask.quiet c l.replies heard.reply q headed
          in
          let number : r.number ≡ number_of c (if_positive q (λ x. checked strict c p') q) =
          k.number ∙
          ap fitting (number-beside ask.call g.a g.s g.d (outcome_of l.replies r.answer.outcome)) ∙
          ap (λ (o : Outcome). fitting (number_of c o)) outcome ∙
          number-fitting strict c q p'
          in
          let timing : timed r.timing ≡ timing_of ask.server c (if_positive q (λ x. checked strict c p') q) (timed session) =
          k.timing ∙
          timing-beside ask.call g.a g.s g.d (outcome_of l.replies r.answer.outcome) ask.server (timed session) ∙
          ap (λ (o : Outcome). timing_of ask.server c o (timed session)) outcome
          in
          let sent = k.sent ∙ sends ask.call ask.quiet g.a g.s g.d l.buffer is in
          let written = stands ask.call ask.quiet g.a g.s g.d l.buffer is writes in
          let told-answer : answer_of l.replies r.answer ≡ after strict c (answer_of l.replies heard) = λ i. answers.answer (outcome i) (k.time i) (k.events i) (k.notices i) (part_of l.replies (k.reply i)) in
          let whole : result_of l.replies r after' ≡ answered w c l (request_of ask.quiet c) (after strict c (answer_of l.replies heard)) =
          λ i. record { answer = told-answer i; number = number i; sent = sent i; timing = timing i; buffer = written i }
          in
          record {
            means =
                whole ∙
                ap (λ (x : answers.Answer). answered w c l (request_of ask.quiet c) (after strict c x)) is-reached ∙
                sym (refusing.accepted (refuse w l) ask.quiet c l.buffer l.form l.events l.replies right 0 told refl kept);
            outcome = k.outcome.inside;
            reply = subst⁻¹ (λ x. Inside l.replies x) k.reply answers-it.reply;
          }
