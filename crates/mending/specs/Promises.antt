-- What request Ten promises of mending, as statements.
use Rattle.std.specs.Prelude.{ℕ, suc, ◌+◌, ◌*◌, ◌≤◌, ◌<◌, true, ◌&&◌, List, [], ◌∷◌, ◌≡◌, length, take}
use Rattle.rules.specs.Bytes.{every, is_byte}
use Rattle.rules.specs.Demand3.{Refused}
use Rattle.rules.specs.Events.{event_size, Entry, entry_at, entries}
use Rattle.rules.specs.Logs.{Header, header_size, form_in, header_of, uses_of, fields_ok, event_ok, argument_bytes, event_bytes, reply_bytes, layout_ok, answer_of}
use Rattle.mending.specs.Mend.{arguments_in, events_in, left_in, Report, report, refused, mended, readable, mend}
use Rattle.mending.specs.Said.{rewrote}

-- A log that "`udslog` neither calls bad nor refuses".
pub record Taken (l : List ℕ) : Type 0 where
  pub bytes : every is_byte l ≡ true
  pub sound : layout_ok l ≡ true
  pub answered : ¬ Refused (answer_of l).outcome

-- The entries of a log, as `udslog` finds them.
abbrev pub entries_of : List ℕ → List Entry
entries_of l = let h = header_of l in entries (form_in h) (event_bytes h l)

-- "comes out byte for byte the same"; no field is told.
abbrev pub Unchanged : Type 0
Unchanged = (l : List ℕ) → Taken l → mend l ≡ mended l (report (header_of l) (header_of l))

abbrev pub NothingTold : Type 0
NothingTold = (h : Header) → rewrote (report h h) ≡ []

-- "mending twice equals mending once"
abbrev pub Twice : Type 0
Twice = (l out : List ℕ) (r : Report) → every is_byte l ≡ true → mend l ≡ mended out r → mend out ≡ mended out (report r.new r.new)

-- The event numbered i of a damaged log.
abbrev pub event_at : List ℕ → ℕ → Entry
event_at l i = let h = header_of l in entry_at (form_in h) (events_in h l) i

-- The first k events "are whole, of known kind, with times that don't fall and with their reply bytes inside what is left of the reply area", said
-- event by event; they are promised, and at most 512.
pub record Run (l : List ℕ) (k : ℕ) : Type 0 where
  pub promised : k ≤ (header_of l).events
  pub few : k ≤ 512
  pub whole : let h = header_of l in header_size (form_in h) + h.arguments + k * event_size (form_in h) ≤ length l
  pub known : (i : ℕ) → i < k → (event_at l i).kind ≤ 3
  pub rising : (i : ℕ) → suc i < k → (event_at l i).time ≤ (event_at l (suc i)).time
  pub inside : (i : ℕ) → i < k → (event_at l i).kind ≡ 0 → (event_at l i).offset + (event_at l i).size ≤ length (left_in (header_of l) l)

-- "it keeps the longest run of leading events"
abbrev pub Longest : Type 0
Longest = (l out : List ℕ) (r : Report) → mend l ≡ mended out r → let read = readable l in Run read r.new.events × ((k : ℕ) → Run read k → k ≤ r.new.events)

-- The fields that no mending rewrites.
abbrev pub others : Header → List ℕ
others h =
    h.version ∷ h.call ∷ h.flags ∷ h.value ∷ h.sub ∷ h.address_length ∷ h.size_length ∷ h.listens ∷ h.arguments ∷ h.p2 ∷ h.star ∷ h.overall ∷ []

-- What is kept is the old: `udslog` finds in the mended log the header that was told, with every other field as it was; the arguments; the first
-- events, as many as were kept; and what was left of the reply area.
pub record Kept (l out : List ℕ) (r : Report) : Type 0 where
  pub old : r.old ≡ header_of (readable l)
  pub new : r.new ≡ header_of out
  pub same : others r.new ≡ others r.old
  pub arguments : argument_bytes r.new out ≡ arguments_in r.old (readable l)
  pub events : event_bytes r.new out ≡ take (r.new.events * event_size (form_in r.old)) (events_in r.old (readable l))
  pub entries : entries_of out ≡ take r.new.events (entries (form_in r.old) (events_in r.old (readable l)))
  pub replies : reply_bytes r.new out ≡ left_in r.old (readable l)

abbrev pub KeepsTheOld : Type 0
KeepsTheOld = (l out : List ℕ) (r : Report) → every is_byte l ≡ true → mend l ≡ mended out r → Kept l out r

-- The mended log is of bytes, never longer than the damaged one, and never longer than a log can be.
abbrev pub NoLonger : Type 0
NoLonger =
    (l out : List ℕ) (r : Report) → every is_byte l ≡ true → mend l ≡ mended out r
    → (every is_byte out ≡ true) × (length out ≤ length l) × (length out ≤ 65535)

-- Only logs that `udslog` calls bad are refused.
abbrev pub OnlyBad : Type 0
OnlyBad = (l : List ℕ) → every is_byte l ≡ true → layout_ok l ≡ true → (n : ℕ) → mend l ≡ refused n → ⊥

-- Only counts and offsets are corrected: a mended log is bad for a header field that does not suit the call, or an unused field of a kept event, and for nothing else.
abbrev pub StillBad : Type 0
StillBad =
    (l out : List ℕ) (r : Report) → every is_byte l ≡ true → mend l ≡ mended out r
    → let h = header_of out in layout_ok out ≡ (every event_ok (entries_of out) && fields_ok h (uses_of h.call))

-- "Collectors lose power while writing a log": the first n bytes of a log that `udslog` takes. Cut inside the header or the arguments it is refused.
-- Cut anywhere behind, it is mended: `udslog` takes the mended log, whose events are the first of the old, and so are its reply bytes.
pub record Saved (l cut : List ℕ) : Type 0 where
  pub log : List ℕ
  pub report : Report
  pub is : mend cut ≡ mended log report
  pub taken : Taken log
  pub same : others (header_of log) ≡ others (header_of l)
  pub arguments : argument_bytes (header_of log) log ≡ argument_bytes (header_of l) l
  pub events : entries_of log ≡ take report.new.events (entries_of l)
  pub replies : reply_bytes (header_of log) log ≡ take report.new.replies (reply_bytes (header_of l) l)

pub record Cut (l : List ℕ) (n : ℕ) : Type 0 where
  pub in-header : n < header_size (form_in (header_of l)) → mend (take n l) ≡ refused 18
  pub in-arguments : let h = header_of l in header_size (form_in h) ≤ n → n < header_size (form_in h) + h.arguments → mend (take n l) ≡ refused 19
  pub behind : let h = header_of l in header_size (form_in h) + h.arguments ≤ n → Saved l (take n l)

abbrev pub OnlyCut : Type 0
OnlyCut = (l : List ℕ) → Taken l → (n : ℕ) → Cut l n
