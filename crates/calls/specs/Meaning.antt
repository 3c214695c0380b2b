-- A whole call of the code, as `rules` says it: the answer, the number, the session and the request buffer afterwards.
use Rattle.std.specs.Prelude.{ℕ, Bool, true, false, ◌≡◌, List, replicate}
use Rattle.rules.specs.Answers.{Outcome, positive, suppressed, negative, timeout, pending_limit, disconnected, transport, fault, refused}
use Rattle.rules.specs.Calls as rules
use Rattle.rules.specs.Client.{Result}
use Rattle.rules.specs.Client as client
use Rattle.rules.specs.Settings as settings
use Rattle.rules.specs.Settings.{Setting, Lent}
use Rattle.exchange.specs.Meaning.{form_of, answer_of, option_of, timed}
use Rattle.exchange.specs.Places.{Inside, InsideOutcome}
use Rattle.exchange.specs.States.{no_place}
use Rattle.wire.specs.declared.MemoryBytes.{MemoryBytes}
use Rattle.exchange.specs.declared.types.Outcome.TheVariants.{Refused}
use Rattle.exchange.specs.declared.types.Channel.{Channel}
use Rattle.exchange.specs.declared.types.Timing.{Timing}
use Rattle.std.specs.Prelude as code
use Rattle.std.specs.Prelude.{Some, None}
use Rattle.requests.specs.Prepared.{Written, pieces_of}
use Rattle.requests.specs.declared.Prepared.{Prepared}
use Rattle.calls.specs.declared.Ask.{Ask}
use Rattle.calls.specs.declared.Answered.{Answered}

abbrev pub setting_of : Ask → Timing → Setting
setting_of ask session = record {
  timing = timed session;
  overall = option_of ask.overall;
  limit = option_of ask.limit;
  server_timing = ask.server;
  quiet = ask.quiet;
}

-- The same with another session timing.
abbrev pub in_timing : settings.Timing → Setting → Setting
in_timing t w = record { timing = t; overall = w.overall; limit = w.limit; server_timing = w.server_timing; quiet = w.quiet }

abbrev pub lent_of : Channel → List ℕ → List ℕ → List ℕ → Lent
lent_of channel buffer events replies = record {
  buffer = buffer;
  form = form_of channel.form;
  events = events;
  replies = replies;
  listens = channel.listens;
}

abbrev pub result_of : List ℕ → Answered → List ℕ → Result
result_of replies r buffer = record {
  answer = answer_of replies r.answer;
  number = r.number;
  sent = r.sent;
  timing = timed r.timing;
  buffer = buffer;
}

abbrev pub refused_of : Timing → ℕ → Answered
refused_of session n = record {
  answer = record {
    outcome = Refused n;
    time = 0;
    events = 0;
    notices = 0;
    reply = no_place;
  };
  number = 0;
  sent = 0;
  timing = session;
}

-- The bytes of a field that a call does not take.
abbrev pub no_bytes : MemoryBytes
no_bytes = record { len = 0; bytes = replicate 15 0 }

abbrev pub is_refused : Outcome → Bool
is_refused (positive p) = false
is_refused suppressed = false
is_refused (negative n) = false
is_refused timeout = false
is_refused disconnected = false
is_refused (transport n) = false
is_refused (fault f) = false
is_refused (refused n) = true
is_refused pending_limit = false

-- What writing a request leaves, of the pieces that a call lends; without one the buffer stays.
abbrev pub Writes : code.Option Prepared → List ℕ → List ℕ → List ℕ → List ℕ → List ℕ → Type 0
Writes None a s d before after = after ≡ before
Writes (Some p) a s d before after = (done : Bool) × Written (pieces_of p a s d) before done after

-- The call's result is r, with this in the request buffer afterwards. The places lie in the lent reply bytes, so their lengths are determined too.
pub record Called (strict : Bool) (w : Setting) (c : rules.Call) (l : Lent) (r : Answered) (buffer : List ℕ) : Type 0 where
  pub means : result_of l.replies r buffer ≡ client.call strict w c l
  pub outcome : InsideOutcome l.replies r.answer.outcome
  pub reply : Inside l.replies r.answer.reply
