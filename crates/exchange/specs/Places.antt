-- What contracts say beside the meaning: where the places lie. With that the meaning determines the answer.
use Rattle.std.specs.Prelude.{ℕ, ◌+◌, ◌≤◌, Bool, cond, ◌≡◌, List, [], eqb, length}
use Rattle.std.proofs.Math.Option.{Option}
use Rattle.rules.specs.Answers as rules
use Rattle.rules.specs.Events.{Entry, event_of, named}
use Rattle.rules.specs.Exchange as exchange
use Rattle.rules.specs.Limited.{spent}
use Rattle.exchange.specs.declared.types.Place.{Place}
use Rattle.exchange.specs.declared.types.Outcome.{Outcome}
use Rattle.exchange.specs.declared.types.Outcome.TheVariants as outcome
use Rattle.exchange.specs.declared.types.Step.{Step}
use Rattle.exchange.specs.declared.types.Step.TheVariants.{Pending, Settles}
use Rattle.exchange.specs.declared.types.Settled.{Settled}
use Rattle.exchange.specs.declared.types.State.{State}
use Rattle.exchange.specs.declared.types.Turn.{Turn}
use Rattle.exchange.specs.declared.types.Turn.TheVariants.{On, Ends}
use Rattle.exchange.specs.declared.types.Answer.{Answer}
use Rattle.exchange.specs.Meaning.{part_of, outcome_of, step_of, answer_of}
use Rattle.exchange.specs.Counts.{plus}

abbrev pub Inside : List ℕ → Place → Type 0
Inside replies p = p.at + p.len ≤ length replies

abbrev pub InsideOutcome : List ℕ → Outcome → Type 0
InsideOutcome replies (outcome.PositiveResponse p) = Inside replies p
InsideOutcome replies outcome.Suppressed = Unit {0}
InsideOutcome replies (outcome.NegativeResponse c) = Unit {0}
InsideOutcome replies outcome.Timeout = Unit {0}
InsideOutcome replies outcome.Disconnected = Unit {0}
InsideOutcome replies (outcome.Transport n) = Unit {0}
InsideOutcome replies (outcome.Fault f) = Unit {0}
InsideOutcome replies (outcome.Refused n) = Unit {0}
InsideOutcome replies outcome.PendingLimit = Unit {0}

abbrev pub InsideStep : List ℕ → Step → Type 0
InsideStep replies Pending = Unit {0}
InsideStep replies (Settles o) = InsideOutcome replies o

-- One reply, judged.
pub record Looked (replies : List ℕ) (s : Step) (x : exchange.Step) : Type 0 where
  pub means : step_of replies s ≡ x
  pub inside : InsideStep replies s

-- An answer of the whole exchange.
pub record Answers (replies : List ℕ) (r : Answer) (x : rules.Answer) : Type 0 where
  pub means : answer_of replies r ≡ x
  pub outcome : InsideOutcome replies r.outcome
  pub reply : Inside replies r.reply

-- The part that an event names, which may start past the end of the lent bytes: as long as the bytes that are there.
pub record Named (replies : List ℕ) (e : Entry) (p : Place) : Type 0 where
  pub means : part_of replies p ≡ named replies e
  pub whole : length (part_of replies p).bytes ≡ p.len

-- All that a place names is there.
abbrev pub Whole : List ℕ → Place → Type 0
Whole replies p = length (part_of replies p).bytes ≡ p.len

-- All that an event names is there, if it is a reply.
abbrev pub WholeReply : List ℕ → Entry → Type 0
WholeReply replies e = e.kind ≡ 0 → length (named replies e).bytes ≡ e.size

-- A reply names no more than is there; any other event stays as it is.
abbrev pub cut : List ℕ → Entry → Entry
cut replies e = record {
  time = e.time;
  kind = e.kind;
  offset = e.offset;
  size = cond (eqb e.kind 0) (length (named replies e).bytes) e.size;
  source = e.source;
}

-- Where the reply of an event begins; 0 where it has none.
abbrev pub beginning : Entry → ℕ
beginning e = cond (eqb e.kind 0) e.offset 0

-- A settled exchange as `rules` has it from the bare state, with what was read before added; its reply begins at the event's or is nowhere.
pub record SettlesAs (overall : Option ℕ) (replies : List ℕ) (begins : ℕ) (before : State) (s : Settled) (x : exchange.Settled) : Type 0 where
  pub means : outcome_of replies s.outcome ≡ x.outcome
  pub time : s.time ≡ x.time
  pub read : s.read ≡ plus overall x.read before.read
  pub notices : s.notices ≡ plus overall x.notices before.notices
  pub reply : part_of replies s.reply ≡ x.reply
  pub inside : InsideOutcome replies s.outcome
  pub whole : length (part_of replies s.reply).bytes ≡ s.reply.len
  pub starts : s.reply.at ≤ begins

-- The state behind an event, in the same way.
abbrev pub onward : Option ℕ → State → exchange.State → State
onward overall before x = record {
  hush = x.hush;
  deadline = x.deadline;
  read = plus overall x.read before.read;
  notices = plus overall x.notices before.notices;
}

abbrev pub TurnsTo : Option ℕ → List ℕ → ℕ → State → Turn → exchange.Turn → Type 0
TurnsTo overall replies begins before (On s) (exchange.on x) = s ≡ onward overall before x
TurnsTo overall replies begins before (On s) (exchange.ends x) = ⊥
TurnsTo overall replies begins before (Ends s) (exchange.on x) = ⊥
TurnsTo overall replies begins before (Ends s) (exchange.ends x) = SettlesAs overall replies begins before s x

-- One event in time, whatever was read before it: `rules`' turn from the state where nothing was, with what is left of the limit.
pub record Turns (strict : Bool) (a : exchange.Asked) (overall : Option ℕ) (listens : ℕ) (s : State) (e : Entry) (replies : List ℕ) (r : Turn) : Type 0 where
  pub means : TurnsTo overall replies (beginning e) s r (exchange.turn strict (spent s.notices.all a) (exchange.state s.hush s.deadline [] []) (event_of listens replies e))
