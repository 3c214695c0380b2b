-- The story of a call that is made, piece by piece.
use Prim.Native.Nat.{ℕ}
use mathlib.Core.Bool.{Bool, true, false}
use mathlib.Core.List.{List, [], ◌++◌}
use mathlib.Core.Path.{◌≡◌, refl, ◌∙◌, ap}
use Rattle.rules.specs.Answers as answers
use Rattle.rules.specs.Events.{entries}
use Rattle.rules.specs.Exchange as rules
use Rattle.exchange.specs.Guarded.{guarded}
use Rattle.exchange.specs.Meaning.{form_of, asked_of, option_of, part_of, outcome_of, answer_of}
use Rattle.exchange.specs.Places.{Answers}
use Rattle.exchange.specs.States.{start_of}
use Rattle.exchange.specs.declared.types.Answer.{Answer}
use Rattle.exchange.specs.declared.types.Asked.{Asked}
use Rattle.exchange.specs.declared.types.Outcome.{Outcome}
use Rattle.exchange.specs.declared.types.Outcome.TheVariants as outcome
use Rattle.exchange.specs.declared.types.State.{State}
use Rattle.exchange.specs.declared.types.Timing.{Timing}
use Rattle.requests.specs.declared.Call.{Call}
use Rattle.calls.specs.declared.Ask.{Ask}
use Rattle.telling.specs.Story.{tell}
use Rattle.telling.specs.Words.{joined, begins, concludes}
use Rattle.story_checks.specs.Coded.{checks_by}
use Rattle.text.specs.Written.{Adds}
use Rattle.tell.specs.Made.{asked_by, call_text}
use Rattle.text.proofs.Adding.{both, saying}

-- Whether a reply was heard as a positive, and which check failed, does not hang on where it stands.
module _ (k : Call) (a s : ℕ) (r : List ℕ) (l : List ℕ) where
  pub heard-anywhere : (strict : Bool) (o : Outcome) (after : answers.Outcome) → checks_by strict k a s r (outcome_of [] o) after ≡ checks_by strict k a s r (outcome_of l o) after
  heard-anywhere true (outcome.PositiveResponse p) after = refl
  heard-anywhere true outcome.Suppressed after = refl
  heard-anywhere true (outcome.NegativeResponse n) after = refl
  heard-anywhere true outcome.Timeout after = refl
  heard-anywhere true outcome.Disconnected after = refl
  heard-anywhere true (outcome.Transport n) after = refl
  heard-anywhere true (outcome.Fault f) after = refl
  heard-anywhere true (outcome.Refused n) after = refl
  heard-anywhere true outcome.PendingLimit after = refl
  heard-anywhere false (outcome.PositiveResponse p) after = refl
  heard-anywhere false outcome.Suppressed after = refl
  heard-anywhere false (outcome.NegativeResponse n) after = refl
  heard-anywhere false outcome.Timeout after = refl
  heard-anywhere false outcome.Disconnected after = refl
  heard-anywhere false (outcome.Transport n) after = refl
  heard-anywhere false (outcome.Fault f) after = refl
  heard-anywhere false (outcome.Refused n) after = refl
  heard-anywhere false outcome.PendingLimit after = refl

begins-same : (strict : _) (request : List ℕ) (a : rules.Asked) {s : State} → s ≡ start_of a
    → begins strict request (rules.state s.hush s.deadline [] []) ≡ begins strict request (rules.start a)
unfolding begins
begins-same strict request a e = λ j. begins strict request (rules.state (e j).hush (e j).deadline [] [])

-- The same call, by what the exchange is asked.
abbrev text : Ask → List ℕ → ℕ → ℕ → List ℕ → List ℕ → Answer → rules.Asked → List ℕ
text ask request address size events replies answer a =
    begins ask.strict request (rules.start a) ++
    joined ask.channel.listens replies (tell ask.strict a (option_of ask.overall) ask.channel.listens replies (entries (form_of ask.channel.form) events) (rules.start a)) ++
    checks_by ask.strict ask.call address size (part_of replies answer.reply).bytes
    (guarded ask.strict a (option_of ask.overall) (form_of ask.channel.form) ask.channel.listens events replies).outcome (outcome_of [] answer.outcome) ++
    concludes (answer_of [] answer)

pub called : (ask : Ask) (session : Timing) (request : List ℕ) (address size : ℕ) (events : List ℕ) (answer : Answer) {replies : List ℕ} {heard : Answer} {asked : Asked} {s : State}
    → asked ≡ asked_by ask session → s ≡ start_of (asked_of asked)
    → Answers replies heard (guarded ask.strict (asked_of asked) (option_of ask.overall) (form_of ask.channel.form) ask.channel.listens events replies)
    → {l m o p q : List ℕ} {n k i r : ℕ} → Adds (begins ask.strict request (rules.state s.hush s.deadline [] [])) l 0 n m
    → Adds (joined ask.channel.listens replies
    (tell ask.strict (asked_of asked) (option_of ask.overall) ask.channel.listens replies (entries (form_of ask.channel.form) events) (rules.start (asked_of asked)))) m n k o
    → Adds (checks_by ask.strict ask.call address size (part_of replies answer.reply).bytes (outcome_of [] heard.outcome) (outcome_of [] answer.outcome)) o k i p
    → Adds (concludes (answer_of [] answer)) p i r q
    → Adds (call_text ask session request address size events replies answer) l 0 r q
called ask session request address size events answer {replies} {heard} {asked} is first hears a b c d =
    let later = outcome_of [] answer.outcome in
    let reply = (part_of replies answer.reply).bytes in
    let judged = heard-anywhere ask.call address size reply replies ask.strict heard.outcome later ∙
    ap (λ (x : answers.Answer). checks_by ask.strict ask.call address size reply x.outcome later) hears.means in
    let begun = saying (begins-same ask.strict request (asked_of asked) first) a in
    saying (ap (λ (x : Asked). text ask request address size events replies answer (asked_of x)) is) (both (both (both begun b) (saying judged c)) d)
