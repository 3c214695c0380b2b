-- How the code holds what is kept: numbers in structs, bytes in lent buffers.
use Rattle.std.specs.Prelude as code
use Rattle.std.specs.Prelude.{Some, None}
use Rattle.std.specs.Prelude.{ℕ, ◌*◌, ◌≤◌, Bool, ◌||◌, List, ◌≡◌, length, take, drop, Result, Ok, Err, is_err}
use Rattle.std.specs.Borrow.{Bor}
use Rattle.std.proofs.Math.Option.{Option, none, some}
use Rattle.isotp.specs.Held.{state_of}
use Rattle.candump.specs.Reading.{hopeless}
use Rattle.importing.specs.Kept as kept
use Rattle.importing.specs.Kept.{Going, going, refused_at, Written, refused_line, refused, lines}
use Rattle.imports.specs.declared.Tally.{Tally}
use Rattle.imports.specs.declared.Import.{Import}
use Rattle.imports.specs.declared.Stream.{Stream}
use Rattle.imports.specs.declared.RefusedLine.{RefusedLine}
use Rattle.imports.specs.declared.ImportError.{ImportError}
use Rattle.imports.specs.declared.ImportError.TheVariants.{Line, Text}
use Rattle.imports.specs.declared.Told.{Told}
use Rattle.imports.specs.declared.Lent.{Lent}
use Rattle.wire.specs.Refusing.{refusal_number}

abbrev pub start_of : code.Option ℕ → Option ℕ
start_of None = none
start_of (Some t) = some t

-- A message that is given, or none.
abbrev pub message_of : code.Option (Bor (List ℕ)) → Option (List ℕ)
message_of None = none
message_of (Some m) = some m.now

-- The text stands at the buffer's front.
abbrev pub tally_of : Tally → List ℕ → kept.Tally
tally_of t out = kept.tally (start_of t.start) t.events t.bytes t.drops t.over (take t.size out)

-- What is kept, how long the text is, and the buffer behind it: this determines answer and buffer.
pub record Tallied (want : kept.Tally) (before : List ℕ) (r : Tally) (after : List ℕ) : Type 0 where
  pub says : tally_of r after ≡ want
  pub size : r.size ≡ length want.text
  pub rest : drop r.size after ≡ drop r.size before
  pub room : length after ≡ length before

-- The events for a log stand at the front of their buffer, as many as the tally says; their replies stand behind the places of 512.
abbrev pub held_log : ℕ → ℕ → List ℕ → kept.Log
held_log events replies l = kept.log (take events l) (take replies (drop 5120 l))

abbrev pub log_in : kept.Tally → List ℕ → kept.Log
log_in t l = held_log (t.events * 10) t.bytes l

abbrev pub log_of : Tally → List ℕ → kept.Log
log_of t l = held_log (t.events * 10) t.bytes l

abbrev pub kept_of : Import → Lent → List ℕ → kept.Kept
kept_of i lent out =
    kept.kept i.line i.time (state_of i.asking lent.asked) (state_of i.answering lent.answered) (tally_of i.tally out) (log_of i.tally lent.log)

abbrev pub going_of : Result Import RefusedLine → Lent → List ℕ → Going
going_of (Ok i) lent out = going (kept_of i lent out)
going_of (Err r) lent out = refused_at r.refusal r.line

abbrev pub stream_of : Stream → Lent → List ℕ → kept.Stream
stream_of s lent out = kept.stream s.reader (going_of s.import lent out)

-- What is settled is so whatever the buffers hold: `Settled`.
abbrev pub settled_in : Stream → Bool
settled_in s = is_err s.import || hopeless s.reader.phase

abbrev pub Settled : Type 0
Settled = (s : Stream) (lent : Lent) (out : List ℕ) → settled_in s ≡ kept.settled (stream_of s lent out)

-- Nothing is under way, and nothing kept, whatever the buffers hold.
abbrev pub Begins : Stream → Type 0
Begins s = (lent : Lent) (out : List ℕ) → stream_of s lent out ≡ kept.start

-- What is told, or why nothing is.
abbrev pub Outcome : Type 0
Outcome = Result Told ImportError

abbrev pub written_of : Outcome → List ℕ → List ℕ → Written
written_of (Ok t) out log = lines (take t.lines out) t.left_out (held_log t.events t.replies log)
written_of (Err (Line r)) out log = refused_line r.refusal r.line
written_of (Err (Text r)) out log = refused (refusal_number r)

-- The lines, the events and the replies stand inside their buffers.
abbrev pub Inside : Outcome → List ℕ → List ℕ → Type 0
Inside (Ok t) out log = (t.lines ≤ length out) × ((t.events ≤ length log) × (t.replies ≤ length (drop 5120 log)))
Inside (Err e) out log = Unit {0}

-- What is written, and that it stands inside the buffers: this determines the answer.
pub record Finished (want : Written) (r : Outcome) (out log : List ℕ) : Type 0 where
  pub says : written_of r out log ≡ want
  pub inside : Inside r out log
