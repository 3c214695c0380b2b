-- "Where an answer is an enum, a definition gives this paper's number and values for each case of the enum." Each value of the code, as `rules` says it.
use Rattle.std.specs.Prelude as code
use Rattle.std.specs.Prelude.{ℕ, cond, List, take, drop, Some, None, Ok, Err, Result}
use Rattle.std.proofs.Math.Option.{Option, none, some}
use Rattle.rules.specs.Answers as rules
use Rattle.rules.specs.Answers.{Part, part, deviation, deviation8, bad_length, overflow, positive, suppressed, negative, timeout, pending_limit, disconnected, transport, fault, refused}
use Rattle.rules.specs.InOrder.{Check, judge}
use Rattle.rules.specs.Events as events
use Rattle.rules.specs.Events.{Entry, foreign}
use Rattle.rules.specs.Exchange as exchange
use Rattle.rules.specs.Settings as settings
use Rattle.exchange.specs.declared.error.ProtocolDeviation.{ProtocolDeviation}
use Rattle.exchange.specs.declared.error.ProtocolDeviation.TheVariants as protocol
use Rattle.exchange.specs.declared.error.Fault.{Fault}
use Rattle.exchange.specs.declared.error.Fault.TheVariants as wrong
use Rattle.exchange.specs.declared.types.Place.{Place}
use Rattle.exchange.specs.declared.types.Timing.{Timing}
use Rattle.exchange.specs.declared.types.Asked.{Asked}
use Rattle.exchange.specs.declared.types.Form.{Form}
use Rattle.exchange.specs.declared.types.Form.TheVariants.{Plain, Addressed}
use Rattle.exchange.specs.declared.types.Event.{Event}
use Rattle.exchange.specs.declared.types.Outcome.{Outcome}
use Rattle.exchange.specs.declared.types.Outcome.TheVariants as outcome
use Rattle.exchange.specs.declared.types.Step.{Step}
use Rattle.exchange.specs.declared.types.Step.TheVariants.{Pending, Settles}
use Rattle.exchange.specs.declared.types.Answer.{Answer}

-- What may be absent: the sub-function, the overall timeout T, the limit of notices, the upper bound of a length.
abbrev pub option_of : {A : Type 0} → code.Option A → Option A
option_of None = none
option_of (Some x) = some x

-- "Deviations are numbered 1 to 15 in the order of `ProtocolDeviation`"
abbrev pub deviation_number : ProtocolDeviation → ℕ
deviation_number protocol.InvalidServiceId = 1
deviation_number protocol.InvalidRequestServiceId = 2
deviation_number protocol.InvalidSubFunction = 3
deviation_number protocol.UnexpectedPositiveResponse = 4
deviation_number protocol.InvalidDataIdentifier = 5
deviation_number protocol.InvalidRoutineIdentifier = 6
deviation_number protocol.InvalidBlockSequenceCounter = 7
deviation_number (protocol.InvalidResponseLength least most) = 8
deviation_number protocol.InvalidLengthFormat = 9
deviation_number protocol.InvalidLengthFormatIdentifier = 10
deviation_number protocol.InvalidMaxNumberOfBlockLength = 11
deviation_number protocol.InvalidAddressAndLengthFormatIdentifier = 12
deviation_number protocol.InvalidMemoryAddress = 13
deviation_number protocol.InvalidMemorySize = 14
deviation_number protocol.InvalidMemoryRecordLength = 15

abbrev pub deviation_of : ProtocolDeviation → rules.Fault
deviation_of protocol.InvalidServiceId = deviation 1
deviation_of protocol.InvalidRequestServiceId = deviation 2
deviation_of protocol.InvalidSubFunction = deviation 3
deviation_of protocol.UnexpectedPositiveResponse = deviation 4
deviation_of protocol.InvalidDataIdentifier = deviation 5
deviation_of protocol.InvalidRoutineIdentifier = deviation 6
deviation_of protocol.InvalidBlockSequenceCounter = deviation 7
deviation_of (protocol.InvalidResponseLength least most) = deviation8 least (option_of most)
deviation_of protocol.InvalidLengthFormat = deviation 9
deviation_of protocol.InvalidLengthFormatIdentifier = deviation 10
deviation_of protocol.InvalidMaxNumberOfBlockLength = deviation 11
deviation_of protocol.InvalidAddressAndLengthFormatIdentifier = deviation 12
deviation_of protocol.InvalidMemoryAddress = deviation 13
deviation_of protocol.InvalidMemorySize = deviation 14
deviation_of protocol.InvalidMemoryRecordLength = deviation 15

abbrev pub fault_of : Fault → rules.Fault
fault_of (wrong.ProtocolDeviation d) = deviation_of d
fault_of wrong.InvalidResponseLength = bad_length
fault_of wrong.BlockLengthOverflow = overflow

-- Checks in order: none fails, or the first that does.
abbrev pub first_of : List (Check rules.Fault) → Option rules.Fault
first_of cs = judge some cs none

abbrev pub verdict_of : Result (Unit {0}) Fault → Option rules.Fault
verdict_of (Ok u) = none
verdict_of (Err f) = some (fault_of f)

-- The bytes at a place of the lent reply bytes, and where they stand.
abbrev pub part_of : List ℕ → Place → Part
part_of replies p = part p.at (take p.len (drop p.at replies))

abbrev pub outcome_of : List ℕ → Outcome → rules.Outcome
outcome_of replies (outcome.PositiveResponse p) = positive (part_of replies p)
outcome_of replies outcome.Suppressed = suppressed
outcome_of replies (outcome.NegativeResponse c) = negative c
outcome_of replies outcome.Timeout = timeout
outcome_of replies outcome.Disconnected = disconnected
outcome_of replies (outcome.Transport n) = transport n
outcome_of replies (outcome.Fault f) = fault (fault_of f)
outcome_of replies (outcome.Refused n) = refused n
outcome_of replies outcome.PendingLimit = pending_limit

abbrev pub step_of : List ℕ → Step → exchange.Step
step_of replies Pending = exchange.pending
step_of replies (Settles o) = exchange.settles (outcome_of replies o)

abbrev pub answer_of : List ℕ → Answer → rules.Answer
answer_of replies x = record {
  outcome = outcome_of replies x.outcome;
  time = x.time;
  events = x.events;
  notices = x.notices;
  reply = part_of replies x.reply;
}

abbrev pub timed : Timing → settings.Timing
timed t = record { p2 = t.p2; star = t.star }

abbrev pub asked_of : Asked → exchange.Asked
asked_of a = record { sid = a.sid; sub = option_of a.sub; timing = timed a.timing; limit = option_of a.limit }

abbrev pub form_of : Form → events.Form
form_of Plain = events.plain
form_of Addressed = events.addressed

abbrev pub entry_of : Event → Entry
entry_of e = record { time = e.time; kind = e.kind; offset = e.offset; size = e.size; source = e.source }

-- The kind as which an entry is heard: a foreign reply is an idle event.
abbrev pub kind_heard : ℕ → Entry → ℕ
kind_heard listens e = cond (foreign listens e) 1 e.kind
