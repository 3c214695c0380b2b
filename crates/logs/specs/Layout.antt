-- The code's structs, as `rules` has them.
use Rattle.std.specs.Prelude.{ℕ, ◌+◌, ◌-◌, List, drop}
use Rattle.rules.specs.Logs as Logs
use Rattle.logs.specs.declared.header.Header.{Header}
use Rattle.logs.specs.declared.layout.Uses.{Uses}

abbrev pub said : Header → Logs.Header
said h = record {
  version = h.version;
  call = h.call;
  flags = h.flags;
  value = h.value;
  sub = h.sub;
  address_length = h.address_length;
  size_length = h.size_length;
  listens = h.listens;
  arguments = h.arguments;
  arguments_at = h.arguments_at;
  events = h.events;
  events_at = h.events_at;
  replies = h.replies;
  replies_at = h.replies_at;
  total = h.total;
  p2 = h.p2;
  star = h.star;
  overall = h.overall;
}

-- The header at a place of a log.
abbrev pub header_at : List ℕ → ℕ → Logs.Header
header_at l at = Logs.header_of (drop at l)

abbrev pub meant : Uses → Logs.Uses
meant u = Logs.uses u.0 u.1 u.2 u.3 u.4 u.5

-- The argument bytes behind address and size, whatever flag 32 says.
abbrev pub data_bytes : Logs.Header → List ℕ → List ℕ
data_bytes h l =
    Logs.area l (Logs.header_size (Logs.form_in h) + h.address_length + h.size_length) (h.arguments - (h.address_length + h.size_length))
