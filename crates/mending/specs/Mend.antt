-- Request Ten, "Mend a damaged log": the log that is written in the damaged one's place, in the request's words and order.
use Rattle.std.specs.Prelude.{ℕ, suc, ◌+◌, ◌*◌, Bool, cond, not, ◌&&◌, ◌||◌, List, [], ◌∷◌, ◌++◌, leb, eqb, length, take}
use Rattle.rules.specs.Events.{event_size, Entry, entries}
use Rattle.rules.specs.InOrder.{unless, judge}
use Rattle.rules.specs.Logs.{Header, header_size, form_in, header_of, all, area}
use Rattle.rules.specs.Writing.{put_header}

-- "Areas are found from the counts": the arguments, the events, and "what is left of the reply area".
abbrev pub arguments_in : Header → List ℕ → List ℕ
arguments_in h l = area l (header_size (form_in h)) h.arguments

abbrev pub events_in : Header → List ℕ → List ℕ
events_in h l = area l (header_size (form_in h) + h.arguments) (h.events * event_size (form_in h))

abbrev pub left_in : Header → List ℕ → List ℕ
left_in h l = area l (header_size (form_in h) + h.arguments + h.events * event_size (form_in h)) h.replies

-- "of known kind, with times that don't fall and with their reply bytes inside what is left": an event behind time t, with so many reply bytes left.
abbrev pub goes_on : ℕ → ℕ → Entry → Bool
goes_on t left e = leb e.kind 3 && leb t e.time && (not (eqb e.kind 0) || leb (e.offset + e.size) left)

-- "the longest run of leading events": how many there are.
abbrev pub run : ℕ → ℕ → List Entry → ℕ
run t left [] = 0
run t left (e ∷ es) = cond (goes_on t left e) (suc (run e.time left es)) 0

-- "events that are whole": those that `entries` reads. "events past the 512th are not kept"
abbrev pub kept : Header → List ℕ → ℕ
kept h l = run 0 (length (left_in h l)) (take 512 (entries (form_in h) (events_in h l)))

-- "with corrected counts and offsets", for so many events and reply bytes.
abbrev pub corrected : Header → ℕ → ℕ → Header
corrected h events replies = record {
  version = h.version;
  call = h.call;
  flags = h.flags;
  value = h.value;
  sub = h.sub;
  address_length = h.address_length;
  size_length = h.size_length;
  listens = h.listens;
  arguments = h.arguments;
  arguments_at = header_size (form_in h);
  events = events;
  events_at = header_size (form_in h) + h.arguments;
  replies = replies;
  replies_at = header_size (form_in h) + h.arguments + events * event_size (form_in h);
  total = header_size (form_in h) + h.arguments + events * event_size (form_in h) + replies;
  p2 = h.p2;
  star = h.star;
  overall = h.overall;
}

abbrev pub mended_header : Header → List ℕ → Header
mended_header h l = corrected h (kept h l) (length (left_in h l))

-- "it keeps the longest run of leading events"
abbrev pub kept_bytes : Header → List ℕ → List ℕ
kept_bytes h l = take (kept h l * event_size (form_in h)) (events_in h l)

-- "reply bytes that the file still holds are" kept.
abbrev pub mended_log : Header → List ℕ → List ℕ
mended_log h l = put_header (mended_header h l) ++ (arguments_in h l ++ (kept_bytes h l ++ left_in h l))

-- "It reports the events kept and promised, and each header field that it rewrote, old and new": the header that was read, and the one written in its place.
pub record Report : Type 0 where
  pub old : Header
  pub new : Header

abbrev pub report : Header → Header → Report
report old new = record { old = old; new = new }

pub data Mended : Type 0 where
  refused : ℕ → Mended
  mended : List ℕ → Report → Mended

-- "18 header shorter than its version's size or of unknown version or call"
abbrev pub headed : Header → List ℕ → Bool
headed h l =
    all
    (leb (header_size (form_in h)) (length l) ∷
    (eqb h.version 1 || eqb h.version 2) ∷
    leb h.call 15 ∷ [])

-- "19 argument bytes not whole"
abbrev pub argued : Header → List ℕ → Bool
argued h l = leb (header_size (form_in h) + h.arguments) (length l)

-- "18 first". Of bytes that are read, and their header.
abbrev pub mending : Header → List ℕ → Mended
mending h l =
    judge refused (unless (headed h l) 18 ∷ unless (argued h l) 19 ∷ [])
    (mended (mended_log h l) (report h (mended_header h l)))

-- "bytes past 65,535 are not read"
abbrev pub readable : List ℕ → List ℕ
readable l = take 65535 l

unfoldable pub mend : List ℕ → Mended
mend l = let read = readable l in mending (header_of read) read
