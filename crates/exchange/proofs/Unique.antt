-- At most one answer fits each public contract: the meaning, with where the places lie, gives the answer back.
use Rattle.std.specs.Prelude as code
use Rattle.std.specs.Prelude.{Some, None}
use Prim.Native.Nat.{ℕ}
use native.Mathlib.Omega.{arith}
use mathlib.Core.Bool.{Bool}
use mathlib.Core.Path.{◌≡◌, refl, sym, ap, ◌∙◌}
use mathlib.Core.List.{List, [], ◌∷◌}
use mathlib.Core.Option.{Option, none, some}
use lib.ListN.{length, get_or, drop, length-drop}
use lib.Seq.{length-take-le}
use Rattle.rules.specs.Answers as rules
use Rattle.rules.specs.Answers.{Part, nowhere, deviation, deviation8, bad_length, overflow, positive, suppressed, negative, timeout, pending_limit, disconnected, transport, fault, refused}
use Rattle.rules.specs.Events.{Entry}
use Rattle.rules.specs.Exchange as exchange
use Rattle.exchange.specs.declared.error.ProtocolDeviation.{ProtocolDeviation}
use Rattle.exchange.specs.declared.error.ProtocolDeviation.TheVariants.{InvalidServiceId, InvalidRequestServiceId, InvalidSubFunction}
use Rattle.exchange.specs.declared.error.ProtocolDeviation.TheVariants.{UnexpectedPositiveResponse, InvalidDataIdentifier}
use Rattle.exchange.specs.declared.error.ProtocolDeviation.TheVariants.{InvalidRoutineIdentifier, InvalidBlockSequenceCounter}
use Rattle.exchange.specs.declared.error.ProtocolDeviation.TheVariants.{InvalidResponseLength, InvalidLengthFormat}
use Rattle.exchange.specs.declared.error.ProtocolDeviation.TheVariants.{InvalidLengthFormatIdentifier, InvalidMaxNumberOfBlockLength}
use Rattle.exchange.specs.declared.error.ProtocolDeviation.TheVariants.{InvalidAddressAndLengthFormatIdentifier, InvalidMemoryAddress}
use Rattle.exchange.specs.declared.error.ProtocolDeviation.TheVariants.{InvalidMemorySize, InvalidMemoryRecordLength}
use Rattle.exchange.specs.declared.error.Fault.{Fault}
use Rattle.exchange.specs.declared.error.Fault.TheVariants as wrong
use Rattle.exchange.specs.declared.types.Place.{Place}
use Rattle.exchange.specs.declared.types.Event.{Event}
use Rattle.exchange.specs.declared.types.Outcome.{Outcome}
use Rattle.exchange.specs.declared.types.Outcome.TheVariants as outcome
use Rattle.exchange.specs.declared.types.Step.{Step}
use Rattle.exchange.specs.declared.types.Step.TheVariants.{Pending, Settles}
use Rattle.exchange.specs.declared.types.Settled.{Settled}
use Rattle.exchange.specs.declared.types.State.{State}
use Rattle.exchange.specs.declared.types.Turn.{Turn}
use Rattle.exchange.specs.declared.types.Turn.TheVariants.{On, Ends}
use Rattle.exchange.specs.declared.types.Answer.{Answer}
use Rattle.exchange.specs.Meaning.{option_of, deviation_of, fault_of, part_of, outcome_of, step_of, answer_of, entry_of}
use Rattle.exchange.specs.Places.{Inside, InsideOutcome, InsideStep, Looked, Answers, Named, SettlesAs, TurnsTo, Turns}

abbrev maximum_from : Option ℕ → code.Option ℕ
maximum_from none = None
maximum_from (some n) = Some n

-- By number, from 0 on; no deviation has the number 0, and 8 has bounds.
abbrev deviations : List ProtocolDeviation
deviations =
    InvalidServiceId ∷
    InvalidServiceId ∷
    InvalidRequestServiceId ∷
    InvalidSubFunction ∷
    UnexpectedPositiveResponse ∷
    InvalidDataIdentifier ∷
    InvalidRoutineIdentifier ∷
    InvalidBlockSequenceCounter ∷
    InvalidServiceId ∷
    InvalidLengthFormat ∷
    InvalidLengthFormatIdentifier ∷
    InvalidMaxNumberOfBlockLength ∷
    InvalidAddressAndLengthFormatIdentifier ∷
    InvalidMemoryAddress ∷
    InvalidMemorySize ∷
    InvalidMemoryRecordLength ∷ []

abbrev pub fault_from : rules.Fault → Fault
fault_from (deviation n) = wrong.ProtocolDeviation (get_or deviations n InvalidServiceId)
fault_from (deviation8 least most) = wrong.ProtocolDeviation (InvalidResponseLength least (maximum_from most))
fault_from bad_length = wrong.InvalidResponseLength
fault_from overflow = wrong.BlockLengthOverflow

abbrev pub place_from : Part → Place
place_from p = record { at = p.at; len = length p.bytes }

abbrev pub outcome_from : rules.Outcome → Outcome
outcome_from (positive p) = outcome.PositiveResponse (place_from p)
outcome_from suppressed = outcome.Suppressed
outcome_from (negative c) = outcome.NegativeResponse c
outcome_from timeout = outcome.Timeout
outcome_from disconnected = outcome.Disconnected
outcome_from (transport n) = outcome.Transport n
outcome_from (fault f) = outcome.Fault (fault_from f)
outcome_from (refused n) = outcome.Refused n
outcome_from pending_limit = outcome.PendingLimit

abbrev pub step_from : exchange.Step → Step
step_from exchange.pending = Pending
step_from (exchange.settles o) = Settles (outcome_from o)

abbrev pub answer_from : rules.Answer → Answer
answer_from x = record {
  outcome = outcome_from x.outcome;
  time = x.time;
  events = x.events;
  notices = x.notices;
  reply = place_from x.reply;
}

maximum-back : (m : code.Option ℕ) → maximum_from (option_of m) ≡ m
maximum-back None = refl
maximum-back (Some n) = refl

deviation-back : (d : ProtocolDeviation) → fault_from (deviation_of d) ≡ wrong.ProtocolDeviation d
deviation-back InvalidServiceId = refl
deviation-back InvalidRequestServiceId = refl
deviation-back InvalidSubFunction = refl
deviation-back UnexpectedPositiveResponse = refl
deviation-back InvalidDataIdentifier = refl
deviation-back InvalidRoutineIdentifier = refl
deviation-back InvalidBlockSequenceCounter = refl
deviation-back (InvalidResponseLength least most) = ap (λ (m : code.Option ℕ). wrong.ProtocolDeviation (InvalidResponseLength least m)) (maximum-back most)
deviation-back InvalidLengthFormat = refl
deviation-back InvalidLengthFormatIdentifier = refl
deviation-back InvalidMaxNumberOfBlockLength = refl
deviation-back InvalidAddressAndLengthFormatIdentifier = refl
deviation-back InvalidMemoryAddress = refl
deviation-back InvalidMemorySize = refl
deviation-back InvalidMemoryRecordLength = refl

fault-back : (f : Fault) → fault_from (fault_of f) ≡ f
fault-back (wrong.ProtocolDeviation d) = deviation-back d
fault-back wrong.InvalidResponseLength = refl
fault-back wrong.BlockLengthOverflow = refl

-- `length_error`
pub fault-unique : (f g : Fault) → fault_of f ≡ fault_of g → f ≡ g
fault-unique f g e = sym (fault-back f) ∙ ap fault_from e ∙ fault-back g

-- `event_at`
pub event-unique : (e f : Event) → entry_of e ≡ entry_of f → e ≡ f
event-unique e f h = ap (λ (x : Entry). record { time = x.time; kind = x.kind; offset = x.offset; size = x.size; source = x.source }) h

module _ (l : List ℕ) where
  place-back : (p : Place) → length (part_of l p).bytes ≡ p.len → place_from (part_of l p) ≡ p
  place-back p h = ap (λ (n : ℕ). record { at = p.at; len = n }) h

  inside_back : (p : Place) → Inside l p → place_from (part_of l p) ≡ p
  inside_back p h = place-back p (length-take-le p.len (drop p.at l) (omega (arith, length-drop p.at l)))

  outcome-back : (o : Outcome) → InsideOutcome l o → outcome_from (outcome_of l o) ≡ o
  outcome-back (outcome.PositiveResponse p) h = ap outcome.PositiveResponse (inside_back p h)
  outcome-back outcome.Suppressed h = refl
  outcome-back (outcome.NegativeResponse c) h = refl
  outcome-back outcome.Timeout h = refl
  outcome-back outcome.Disconnected h = refl
  outcome-back (outcome.Transport n) h = refl
  outcome-back (outcome.Fault f) h = ap outcome.Fault (fault-back f)
  outcome-back (outcome.Refused n) h = refl
  outcome-back outcome.PendingLimit h = refl

  step_back : (s : Step) → InsideStep l s → step_from (step_of l s) ≡ s
  step_back Pending h = refl
  step_back (Settles o) h = ap Settles (outcome-back o h)

  -- `named`
  pub named-unique : {e : Entry} {p q : Place} → Named l e p → Named l e q → p ≡ q
  named-unique {p = p} {q = q} h k = sym (place-back p h.whole) ∙ ap place_from (h.means ∙ sym k.means) ∙ place-back q k.whole

  -- `look`
  pub looked-gives : {s : Step} {x : exchange.Step} → Looked l s x → s ≡ step_from x
  looked-gives {s} h = sym (step_back s h.inside) ∙ ap step_from h.means

  pub looked-unique : {s t : Step} {x : exchange.Step} → Looked l s x → Looked l t x → s ≡ t
  looked-unique h k = looked-gives h ∙ sym (looked-gives k)

  answer_back : (r : Answer) → InsideOutcome l r.outcome → Inside l r.reply → answer_from (answer_of l r) ≡ r
  answer_back r o p =
      let outcomes = outcome-back r.outcome o in
      let replies = inside_back r.reply p in
      λ i. record { outcome = outcomes i; time = r.time; events = r.events; notices = r.notices; reply = replies i }

  -- `exchange`
  pub answers-gives : {r : Answer} {x : rules.Answer} → Answers l r x → r ≡ answer_from x
  answers-gives {r} h = sym (answer_back r h.outcome h.reply) ∙ ap answer_from h.means

  pub answers-unique : {r s : Answer} {x : rules.Answer} → Answers l r x → Answers l s x → r ≡ s
  answers-unique h k = answers-gives h ∙ sym (answers-gives k)

  -- `turn`
  settles-unique : {overall : Option ℕ} {begins : ℕ} {before : State} {s t : Settled} {x : exchange.Settled} → SettlesAs overall l begins before s x → SettlesAs overall l begins before t x → s ≡ t
  settles-unique {s = s} {t = t} h k =
      let outcomes : s.outcome ≡ t.outcome = sym (outcome-back s.outcome h.inside) ∙ ap outcome_from (h.means ∙ sym k.means) ∙ outcome-back t.outcome k.inside in
      let times : s.time ≡ t.time = h.time ∙ sym k.time in
      let reads : s.read ≡ t.read = h.read ∙ sym k.read in
      let notes : s.notices ≡ t.notices = h.notices ∙ sym k.notices in
      let replies : s.reply ≡ t.reply = sym (place-back s.reply h.whole) ∙ ap place_from (h.reply ∙ sym k.reply) ∙ place-back t.reply k.whole in
      λ i. record { outcome = outcomes i; time = times i; read = reads i; notices = notes i; reply = replies i }

  turns-to-unique : (overall : Option ℕ) (begins : ℕ) (before : State) (x y : Turn) (z : exchange.Turn) → TurnsTo overall l begins before x z → TurnsTo overall l begins before y z → x ≡ y
  turns-to-unique overall begins before (On s) (On t) (exchange.on z) h k = ap On (h ∙ sym k)
  turns-to-unique overall begins before (Ends s) (Ends t) (exchange.ends z) h k = ap Ends (settles-unique h k)
  turns-to-unique overall begins before (On s) y (exchange.ends z) h k = absurd h
  turns-to-unique overall begins before (Ends s) y (exchange.on z) h k = absurd h
  turns-to-unique overall begins before (On s) (Ends t) (exchange.on z) h k = absurd k
  turns-to-unique overall begins before (Ends s) (On t) (exchange.ends z) h k = absurd k

  pub turns-unique : {strict : Bool} {a : exchange.Asked} {overall : Option ℕ} {listens : ℕ} {before : State} {e : Entry} {x y : Turn} → Turns strict a overall listens before e l x → Turns strict a overall listens before e l y → x ≡ y
  turns-unique {overall = overall} {before = before} {e = e} {x = x} {y = y} h k = turns-to-unique overall _ before x y _ h.means k.means
