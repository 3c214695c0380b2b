-- The exchange's states as the code has them: where it starts, how silence ends it, and what T leaves of it.
use Rattle.std.specs.Prelude.{ℕ, cond, leb}
use Rattle.std.proofs.Math.Option.{Option, none, some}
use Rattle.rules.specs.Exchange as exchange
use Rattle.exchange.specs.declared.types.Answer.{Answer}
use Rattle.exchange.specs.declared.types.Outcome.TheVariants.{Suppressed, Timeout}
use Rattle.exchange.specs.declared.types.Place.{Place}
use Rattle.exchange.specs.declared.types.Settled.{Settled}
use Rattle.exchange.specs.declared.types.State.{State}
use Rattle.exchange.specs.Counts.{count_of, counted}

abbrev pub no_place : Place
no_place = record { at = 0; len = 0 }

-- The code's state counts the times that `rules`' state keeps.
abbrev pub state_of : Option ℕ → exchange.State → State
state_of overall s = record {
  hush = s.hush;
  deadline = s.deadline;
  read = count_of overall s.read;
  notices = count_of overall s.notices;
}

-- "The deadline starts at P2."
abbrev pub start_of : exchange.Asked → State
start_of a = state_of none (exchange.start a)

-- "Idle changes nothing" but that it was read, at this time.
abbrev pub passed_by : Option ℕ → ℕ → State → State
passed_by overall t s = record { hush = s.hush; deadline = s.deadline; read = counted overall t s.read; notices = s.notices }

-- "No event in time: suppressed if bit 7 of the sub-function is set and no pending was read, else timeout. It finishes at the deadline."
abbrev pub silence_of : State → Settled
silence_of s = record {
  outcome = cond s.hush Suppressed Timeout;
  time = s.deadline;
  read = s.read;
  notices = s.notices;
  reply = no_place;
}

-- "If that time exceeds T, the outcome is timeout at T." "Under a timeout at T these count only events at times up to T."
abbrev pub whole_of : Settled → Answer
whole_of s = record {
  outcome = s.outcome;
  time = s.time;
  events = s.read.all;
  notices = s.notices.all;
  reply = s.reply;
}

abbrev pub cut_of : ℕ → Settled → Answer
cut_of overall s = record {
  outcome = Timeout;
  time = overall;
  events = s.read.early;
  notices = s.notices.early;
  reply = no_place;
}

abbrev pub under_of : Option ℕ → Settled → Answer
under_of none s = whole_of s
under_of (some overall) s = cond (leb s.time overall) (whole_of s) (cut_of overall s)
