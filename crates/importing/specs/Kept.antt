-- What is kept of a text while its lines come, in bounded memory: counts, the lines to be written so far, and the events as a log has them.
use Rattle.std.specs.Prelude.{ℕ, ◌+◌, ◌-◌, ◌/◌, Bool, true, false, cond, ◌&&◌, ◌||◌, List, [], ◌∷◌, ◌++◌, leb, ltb, eqb, length}
use Rattle.std.proofs.Math.Option.{Option, none, some}
use Rattle.rules.specs.Events.{plain, Entry}
use Rattle.rules.specs.Lines.{ascii}
use Rattle.rules.specs.Writing.{put_entry}
use Rattle.text.specs.Written.{item}
use Rattle.isotp.specs.Joining.{State, idle}
use Rattle.candump.specs.Lines.{Line, blank, unreadable, other, frame}
use Rattle.candump.specs.Reading as reading
use Rattle.candump.specs.declared.Reader.{Reader}
use Rattle.importing.specs.Import.{next, heard}

-- The request's time; how many events and reply bytes; how many messages were given up; whether refusal 17 is due; the lines.
pub record Tally : Type 0 where
  pub start : Option ℕ
  pub events : ℕ
  pub bytes : ℕ
  pub drops : ℕ
  pub over : Bool
  pub text : List ℕ

abbrev pub tally : Option ℕ → ℕ → ℕ → ℕ → Bool → List ℕ → Tally
tally s e b d o t = record { start = s; events = e; bytes = b; drops = d; over = o; text = t }

-- A line that has no room is left out: `Promises.Suffices` says how much always suffices.
abbrev pub append : ℕ → List ℕ → List ℕ → List ℕ
append room text l = cond (leb (length text + length l) room) (text ++ l) text

-- Of the lines at which a message was given up, the first 4,096 are kept.
abbrev pub note_drop : ℕ → ℕ → Tally → Tally
note_drop room n t =
    tally t.start t.events t.bytes (next t.drops) t.over (cond (ltb t.drops 4096) (append room t.text (item (ascii "dropped") n [])) t.text)

abbrev pub note_request : ℕ → ℕ → ℕ → List ℕ → Tally → Tally
note_request room n time m t = tally (some time) t.events t.bytes t.drops t.over (append room t.text (item (ascii "request") n m))

-- Whether a reply is one too many, too late, or too long for what is left.
abbrev pub fits_in : ℕ → ℕ → ℕ → ℕ → Bool
fits_in events bytes ms size = ltb events 512 && leb ms 4294967295 && leb (bytes + size) 65535

abbrev pub replied : ℕ → ℕ → List ℕ → Tally → Tally
replied room ms m t = tally t.start (t.events + 1) (t.bytes + length m) t.drops t.over (append room t.text (item (ascii "reply") ms m))

abbrev pub overflowed : Tally → Tally
overflowed t = tally t.start t.events t.bytes t.drops true t.text

abbrev pub note_reply : ℕ → ℕ → List ℕ → Tally → Tally
note_reply room ms m t = cond (fits_in t.events t.bytes ms (length m)) (replied room ms m t) (overflowed t)

abbrev pub note_given : ℕ → Option ℕ → ℕ → ℕ → Option (List ℕ) → Option (List ℕ) → Tally → Tally
note_given room none n time none answered t = t
note_given room none n time (some m) answered t = note_request room n time m t
note_given room (some s) n time asked none t = t
note_given room (some s) n time asked (some m) t = note_reply room ((time - s) / 1000) m t

unfoldable pub note : ℕ → ℕ → ℕ → Bool → Option (List ℕ) → Option (List ℕ) → Tally → Tally
note room n time drops asked answered t = note_given room t.start n time asked answered (cond drops (note_drop room n t) t)

-- The events for a log, which are the replies that fit: as the bytes of events of version 1, and their replies one behind the other.
pub record Log : Type 0 where
  pub events : List ℕ
  pub replies : List ℕ

abbrev pub log : List ℕ → List ℕ → Log
log es rs = record { events = es; replies = rs }

-- A reply at this time, of so many bytes from an offset on.
abbrev pub entry : ℕ → ℕ → ℕ → Entry
entry ms at size = record { time = ms; kind = 0; offset = at; size = size; source = 0 }

abbrev pub logged : ℕ → List ℕ → Tally → Log → Log
logged ms m t l = log (l.events ++ put_entry plain (entry ms t.bytes (length m))) (l.replies ++ m)

abbrev pub log_reply : ℕ → List ℕ → Tally → Log → Log
log_reply ms m t l = cond (fits_in t.events t.bytes ms (length m)) (logged ms m t l) l

unfoldable pub log_given : Option ℕ → ℕ → Option (List ℕ) → Tally → Log → Log
log_given none time answered t l = l
log_given (some s) time none t l = l
log_given (some s) time (some m) t l = log_reply ((time - s) / 1000) m t l

-- As `Known` and `Import` are, with what is kept for what was told.
pub record Kept : Type 0 where
  pub line : ℕ
  pub time : ℕ
  pub asking : State
  pub answering : State
  pub tally : Tally
  pub log : Log

pub data Going : Type 0 where
  going : Kept → Going
  refused_at : ℕ → ℕ → Going

abbrev pub kept : ℕ → ℕ → State → State → Tally → Log → Kept
kept l time a b t g = record { line = l; time = time; asking = a; answering = b; tally = t; log = g }

abbrev pub begins : Going
begins = going (kept 0 0 idle idle (tally none 0 0 0 false []) (log [] []))

abbrev pub framed : ℕ → ℕ → ℕ → Kept → ℕ → ℕ → List ℕ → Kept
framed room ask answer k time id bytes =
    let n = next k.line in
    let asks = heard (eqb id ask) k.asking bytes in
    let answers = heard (eqb id answer) k.answering bytes in
    kept n time asks.state answers.state (note room n time (asks.drops || answers.drops) asks.gives answers.gives k.tally)
    (log_given k.tally.start time answers.gives k.tally k.log)

abbrev pub passed : Kept → ℕ → Kept
passed k time = kept (next k.line) time k.asking k.answering k.tally k.log

abbrev pub in_order : Kept → ℕ → Kept → Going
in_order k time after = cond (ltb time k.time) (refused_at 16 (next k.line)) (going after)

abbrev pub known : ℕ → ℕ → ℕ → Kept → Line → Going
known room ask answer k blank = going (passed k k.time)
known room ask answer k unreadable = refused_at 14 (next k.line)
known room ask answer k (other time) = in_order k time (passed k time)
known room ask answer k (frame time id bytes) = in_order k time (framed room ask answer k time id bytes)

unfoldable pub step : ℕ → ℕ → ℕ → Going → Line → Going
step room ask answer (going k) l = known room ask answer k l
step room ask answer (refused_at n at) l = refused_at n at

-- A text, byte by byte: the line under way, and what is kept of those before it.
pub record Stream : Type 0 where
  pub reader : Reader
  pub kept : Going

abbrev pub stream : Reader → Going → Stream
stream r g = record { reader = r; kept = g }

abbrev pub read_line : Reader → Line
read_line r = reading.line_of (reading.ended r.phase) r.bytes

unfoldable pub byte : ℕ → ℕ → ℕ → Stream → ℕ → Stream
byte room ask answer s c =
    cond (eqb c 10) (stream reading.begun (step room ask answer s.kept (read_line s.reader))) (stream (reading.next s.reader c) s.kept)

unfoldable pub bytes : ℕ → ℕ → ℕ → Stream → List ℕ → Stream
bytes room ask answer s [] = s
bytes room ask answer s (c ∷ t) = bytes room ask answer (byte room ask answer s c) t

-- Nothing that follows changes what is written: a line was refused, or the line under way can't be read.
abbrev pub refused_in : Going → Bool
refused_in (going k) = false
refused_in (refused_at n at) = true

abbrev pub settled : Stream → Bool
settled s = refused_in s.kept || reading.hopeless s.reader.phase

-- What is written in the end.
pub data Written : Type 0 where
  refused_line : ℕ → ℕ → Written
  refused : ℕ → Written
  -- The lines, how many `dropped` lines are left out of them, and the events for a log.
  lines : List ℕ → ℕ → Log → Written

abbrev pub judged : Going → Written
judged (refused_at n at) = refused_line n at
judged (going k) = requested k.tally.start
  where
    requested : Option ℕ → Written
    requested none = refused 15
    requested (some t) = cond k.tally.over (refused 17) (lines k.tally.text (k.tally.drops - 4096) k.log)

-- "Bytes after the last LF are a line unless there are none": one without bytes is blank, and blank lines tell nothing.
unfoldable pub ended : ℕ → ℕ → ℕ → Stream → Written
ended room ask answer s = judged (step room ask answer s.kept (read_line s.reader))

abbrev pub start : Stream
start = stream reading.begun begins
