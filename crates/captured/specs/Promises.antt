-- What is promised of the log of a capture.
use Rattle.std.specs.Prelude.{ℕ, true, List, map, ◌≡◌, length}
use Rattle.rules.specs.Answers.{refused}
use Rattle.rules.specs.Bytes.{every, is_byte}
use Rattle.rules.specs.Events.{Entry, entries, within_limits}
use Rattle.rules.specs.Logs.{form_in, header_of, argument_bytes, event_bytes, reply_bytes, layout_ok, answer_of}
use Rattle.mending.specs.Mend.{corrected}
use Rattle.importing.specs.Import.{Item, imported, told}
use Rattle.importing.specs.Promises.{entries_from, replies_of}
use Rattle.captured.specs.Capture.{from, log, capture}

-- What `udslog` finds in the log: the header of the call with the counts and offsets of these events, its arguments, these events, these replies. It
-- does not call the log bad; the events pass the test of refusal 10, and the answer is never that refusal.
pub record Finds (call : List ℕ) (es : List Entry) (rs l : List ℕ) : Type 0 where
  pub header : header_of l ≡ corrected (header_of call) (length es) (length rs)
  pub arguments : argument_bytes (header_of l) l ≡ argument_bytes (header_of call) call
  pub events : entries (form_in (header_of l)) (event_bytes (header_of l) l) ≡ map (from (header_of call).listens) es
  pub replies : reply_bytes (header_of l) l ≡ rs
  pub sound : layout_ok l ≡ true
  pub limits : within_limits (form_in (header_of l)) (event_bytes (header_of l) l) (reply_bytes (header_of l) l) ≡ true
  pub not-ten : (answer_of l).outcome ≡ refused 10 → ⊥

-- For every text that is imported, and every call: where a log comes out, `udslog` finds this in it.
abbrev pub Holds : Type 0
Holds =
    (ask answer : ℕ) (text : List ℕ) (is : List Item) (call l : List ℕ) → imported ask answer text ≡ told is → every is_byte call ≡ true →
    capture call (entries_from 0 is) (replies_of is) ≡ log l → Finds call (entries_from 0 is) (replies_of is) l
