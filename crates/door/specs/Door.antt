-- What the door's numbers and slices ask, and when they ask nothing that document 01 has.
use Rattle.std.specs.Prelude as code
use Rattle.std.specs.Prelude.{Some, None}
use Rattle.std.specs.Prelude.{ℕ, ◌+◌, Bool, true, false, cond, ◌&&◌, ◌||◌, ◌≡◌, List, leb, eqb, take, drop}
use Rattle.std.proofs.Math.Option.{Option, none, some}
use Rattle.rules.specs.Calls.{Field, given}
use Rattle.rules.specs.Client.{Result, call}
use Rattle.rules.specs.Logs.{Header, form_in, flag, uses_of, fields_ok, setting_of}
use Rattle.rules.specs.Limited.{in_limit}
use Rattle.rules.specs.Settings.{Lent}
use Rattle.calls.specs.declared.Ask.{Ask}
use Rattle.log_call.specs.Asking.{chosen, Asks}

-- Version 2 has its events addressed.
abbrev pub version_of : Bool → ℕ
version_of addressed = cond addressed 2 1

-- The numbers as the header of a log has them. The log's areas are slices here, and the header counts no data bytes.
abbrev pub fields : ℕ → ℕ → ℕ → ℕ → ℕ → ℕ → ℕ → ℕ → ℕ → Bool → ℕ → Header
fields c flags value sub a s p2 star overall addressed listens = record {
  version = version_of addressed;
  call = c;
  flags = flags;
  value = value;
  sub = sub;
  address_length = a;
  size_length = s;
  listens = listens;
  arguments = a + s;
  arguments_at = 0;
  events = 0;
  events_at = 0;
  replies = 0;
  replies_at = 0;
  total = 0;
  p2 = p2;
  star = star;
  overall = overall;
}

-- "a limit of K notices, 0..255, or none": none is the largest number of 16 bits.
abbrev pub no_limit : ℕ
no_limit = 65535

abbrev pub is_limit : ℕ → Bool
is_limit k = leb k 255 || eqb k no_limit

abbrev pub limit_in : ℕ → Option ℕ
limit_in k = cond (leb k 255) (some k) none

-- Whether there is such a call and such a limit, and n argument bytes are as many as the two lengths say, and more with flag 32 only.
unfoldable pub fits : Header → ℕ → ℕ → Bool
fits h k n = leb h.call 15 && is_limit k && leb h.arguments n && (eqb (flag 32 h) 1 || leb n h.arguments)

-- Whether the fields and n argument bytes ask a call: the fields suit it by the log's rules.
abbrev pub asks_one : Header → ℕ → ℕ → Bool
asks_one h k n = fields_ok h (uses_of h.call) && fits h k n

-- "Calls 5, 6, 11 and 12 have an `alfid` form"
abbrev pub has_alfid : ℕ → Bool
has_alfid c = eqb c 5 || eqb c 6 || eqb c 11 || eqb c 12

-- "Arguments are address, size, data."
abbrev pub address_in : Header → List ℕ → Field
address_in h l = given (take h.address_length l)

abbrev pub size_in : Header → List ℕ → Field
size_in h l = given (take h.size_length (drop h.address_length l))

abbrev pub data_in : Header → List ℕ → List ℕ
data_in h l = drop (h.address_length + h.size_length) l

-- The call that the fields ask, with this limit, address, size and data.
abbrev pub asked : Header → ℕ → Field → Field → List ℕ → Lent → Result
asked h k a s d l = call (eqb (flag 1 h) 1) (in_limit (limit_in k) (setting_of h)) (chosen h a s d) l

-- What is lent, in the form that the fields say.
abbrev pub lent_in : Header → List ℕ → List ℕ → List ℕ → Lent
lent_in h buffer events replies = record {
  buffer = buffer;
  form = form_in h;
  events = events;
  replies = replies;
  listens = h.listens;
}

-- The code's ask, with this limit.
abbrev pub limit_for : ℕ → code.Option ℕ
limit_for k = cond (leb k 255) (Some k) None

abbrev pub limited_to : code.Option ℕ → Ask → Ask
limited_to limit ask = record {
  call = ask.call;
  quiet = ask.quiet;
  strict = ask.strict;
  server = ask.server;
  overall = ask.overall;
  limit = limit;
  channel = ask.channel;
}

-- What the code asks of the fields and n argument bytes, with this limit.
abbrev pub AskedFor : Header → ℕ → ℕ → code.Option Ask → Type 0
AskedFor h k n (Some r) = (asks_one h k n ≡ true) × (ask : Ask) × Asks h ask × (r ≡ limited_to (limit_for k) ask)
AskedFor h k n None = asks_one h k n ≡ false
