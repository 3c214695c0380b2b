-- What a client's call means: the call of `rules` with the client's configuration and session.
use Rattle.std.specs.Borrow.{Bor}
use Rattle.std.specs.Prelude as code
use Rattle.std.specs.Prelude.{ℕ, Bool, List, option_copied}
use Rattle.std.proofs.Math.Option.{Option}
use Rattle.rules.specs.Calls as rules
use Rattle.exchange.specs.declared.types.Timing.{Timing}
use Rattle.exchange.specs.Meaning.{option_of}
use Rattle.requests.specs.declared.Call.{Call}
use Rattle.requests.specs.declared.Call.TheVariants as call
use Rattle.calls.specs.Meaning.{setting_of, lent_of, Called}
use Rattle.calls.specs.declared.Ask.{Ask}
use Rattle.calls.specs.declared.Answered.{Answered}
use Rattle.uds.specs.declared.config.UDSConfig.{UDSConfig}
use Rattle.uds.specs.declared.Client.{Client}

-- The session as it begins: the configured timing.
abbrev pub session_of : UDSConfig → Timing
session_of c = record { p2 = c.p2_timeout; star = c.p2_star_timeout }

-- The client behind a call that was answered so.
abbrev pub kept_by : {q : ℕ} → Client q → Answered → Client q
kept_by u r = record { config = u.config; session = r.timing }

abbrev pub ask_of : {q : ℕ} → Client q → Bool → Call → Ask
ask_of u quiet k = record {
  call = k;
  quiet = quiet;
  strict = u.config.strict;
  server = u.config.use_server_timing;
  overall = u.config.request_timeout;
  limit = u.config.notice_limit;
  channel = u.config.channel;
}

-- Data as the caller lends it: none, or the bytes behind it. Absent is not empty.
abbrev pub given : code.Option (Bor (List ℕ)) → Option (List ℕ)
given o = option_of (option_copied o)

-- The client makes this call over what is lent, and is answered so.
abbrev pub Asks : {q : ℕ} → Client q → Bool → rules.Call → List ℕ → List ℕ → List ℕ → Answered → List ℕ → Type 0
Asks u quiet c before events replies r after =
    Called u.config.strict (setting_of (ask_of u quiet call.TesterPresent) u.session) c (lent_of u.config.channel before events replies) r after
