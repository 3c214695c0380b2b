-- A log of a capture: "a log without events whose header and arguments are taken", with the events and the replies of a text.
use Rattle.std.specs.Prelude.{ℕ, Bool, cond, ◌&&◌, List, ◌++◌, map, leb, eqb, length}
use Rattle.rules.specs.Events.{Entry}
use Rattle.rules.specs.Logs.{form_in, header_of, argument_bytes, layout_ok}
use Rattle.rules.specs.Writing.{put_header, put_entries}
use Rattle.mending.specs.Mend.{corrected}

-- A log without events that `udslog` does not call bad. (Reply bytes that no event names are not taken.)
abbrev pub is_call : List ℕ → Bool
is_call l = layout_ok l && eqb (header_of l).events 0

-- Every event is of the one that answers: in version 2 it carries the address listened to, which is 0 in version 1.
abbrev pub from : ℕ → Entry → Entry
from source e = record { time = e.time; kind = e.kind; offset = e.offset; size = e.size; source = source }

-- The call's header with other counts and offsets; its arguments; the events, in its version's form; the replies.
abbrev pub log_of : List ℕ → List Entry → List ℕ → List ℕ
log_of call es rs =
    let h = header_of call in
    put_header (corrected h (length es) (length rs)) ++ (argument_bytes h call ++ (put_entries (form_in h) (map (from h.listens) es) ++ rs))

pub data Captured : Type 0 where
  log : List ℕ → Captured
  too_long : Captured
  no_call : Captured

-- A log's total is a number of two bytes.
unfoldable pub capture : List ℕ → List Entry → List ℕ → Captured
capture call es rs = cond (is_call call) (cond (leb (length (log_of call es rs)) 65535) (log (log_of call es rs)) too_long) no_call
