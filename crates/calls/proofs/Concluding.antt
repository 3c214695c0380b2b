-- At most one answer fits the contract of `concluded`, whatever was heard.
use Prim.Native.Nat.{ℕ}
use mathlib.Core.Path.{◌≡◌, refl, sym, ◌∙◌, ap}
use mathlib.Core.List.{List}
use Rattle.rules.specs.After.{number_of, timing_of}
use Rattle.rules.specs.Exchange as exchange
use Rattle.exchange.specs.Meaning.{outcome_of, timed}
use Rattle.exchange.specs.Places.{InsideOutcome}
use Rattle.exchange.specs.declared.types.Answer.{Answer}
use Rattle.exchange.specs.declared.types.Outcome.{Outcome}
use Rattle.exchange.specs.declared.types.Step.{Step}
use Rattle.exchange.specs.declared.types.Step.TheVariants.{Pending, Settles}
use Rattle.exchange.specs.declared.types.Timing.{Timing}
use Rattle.exchange.proofs.Unique.{looked-unique}
use Rattle.requests.specs.Meaning.{bare}
use Rattle.checks.specs.Answered.{fitting}
use Rattle.checks.proofs.Unique.{timing-unique}
use Rattle.calls.specs.Concluded.{Concluded}
use Rattle.calls.specs.declared.Ask.{Ask}
use Rattle.calls.specs.declared.Answered.{Answered}

abbrev outcome_in : Outcome → Step → Outcome
outcome_in o (Settles p) = p
outcome_in o Pending = o

module _ (replies : List ℕ) where
  outcome-unique : {o p : Outcome} → InsideOutcome replies o → InsideOutcome replies p → outcome_of replies o ≡ outcome_of replies p → o ≡ p
  outcome-unique {o} {p} i j e =
      ap (outcome_in o) (looked-unique replies {s = Settles o} {t = Settles p} (record { means = ap exchange.settles e; inside = i })
      (record { means = refl; inside = j }))

  pub concluded-unique : {session : Timing} {ask : Ask} {n : ℕ} {a s : List ℕ} {heard : Answer} {x y : Answered}
      → Concluded session ask n a s replies heard x → Concluded session ask n a s replies heard y → x ≡ y
  concluded-unique {session} {ask} {x = x} {y = y} k h =
      let outcome = outcome-unique k.outcome.inside h.outcome.inside (k.outcome.means ∙ sym h.outcome.means) in
      let time = k.time ∙ sym h.time in
      let events = k.events ∙ sym h.events in
      let notices = k.notices ∙ sym h.notices in
      let reply = k.reply ∙ sym h.reply in
      let number = k.number ∙ ap (λ (o : Outcome). fitting (number_of (bare ask.call) (outcome_of replies o))) outcome ∙ sym h.number in
      let sent = k.sent ∙ sym h.sent in
      let timing =
      timing-unique x.timing y.timing
      (k.timing ∙ ap (λ (o : Outcome). timing_of ask.server (bare ask.call) (outcome_of replies o) (timed session)) outcome ∙ sym h.timing)
      in
      λ i. record {
        answer = record { outcome = outcome i; time = time i; events = events i; notices = notices i; reply = reply i };
        number = number i;
        sent = sent i;
        timing = timing i;
      }
