-- A whole run, from the text that was read, in whatever pieces, to what is written on both streams.
use Rattle.std.specs.Prelude.{ℕ, ◌-◌, Bool, true, false, List, [], ◌++◌, ◌≡◌, take}
use Rattle.importing.specs.Import as import
use Rattle.importing.specs.Import.{Imported, imported}
use Rattle.importing.specs.Kept.{Stream, bytes}
use Rattle.importing.specs.Promises.{written, in_full, lines_from, given_up_from, entries_from, replies_of}
use Rattle.captured.specs.Capture.{capture}
use Rattle.imports.specs.Held.{Outcome, Finished}
use Rattle.log2uds.specs.Streams.{shown, left_in, reported, others, output, errors}

-- So many bytes more were read.
pub record Came (room ask answer : ℕ) (before after : Stream) : Type 0 where
  pub text : List ℕ
  pub is : after ≡ bytes room ask answer before text

-- One read: where it says that the text has ended, nothing came.
pub record Turned (room ask answer : ℕ) (before after : Stream) (ended : Bool) : Type 0 where
  pub came : Came room ask answer before after
  pub none : ended ≡ true → came.text ≡ []

-- Where a text was not read to its end, what is left of it changes nothing.
abbrev pub Settled : ℕ → ℕ → Bool → List ℕ → Type 0
Settled ask answer ended text = ended ≡ false → (rest : List ℕ) → imported ask answer (text ++ rest) ≡ imported ask answer text

-- A text was read, and this is what comes of it.
pub record Ends (room ask answer : ℕ) (ended : Bool) (r : Outcome) (out log : List ℕ) : Type 0 where
  pub text : List ℕ
  pub settled : Settled ask answer ended text
  pub finished : Finished (written room (imported ask answer text)) r out log

-- `log2uds REQUEST REPLY`: there is a text whose lines, or whose refusal, stand at the front of one buffer, and how many `dropped` lines were left
-- out, if any, at the front of the other.
pub record Lines (ask answer : ℕ) (ended : Bool) (n : ℕ) (out : List ℕ) (m : ℕ) (said : List ℕ) : Type 0 where
  pub text : List ℕ
  pub settled : Settled ask answer ended text
  pub output : take n out ≡ shown (in_full (imported ask answer text))
  pub errors : take m said ≡ reported (left_in (in_full (imported ask answer text)))

-- With a call: the log of the call with the events of what is told, for standard output; for standard error the lines that stand on standard output
-- without a call but the replies, which are in the log, and how many `dropped` lines were left out; or a refusal.
abbrev pub log_output : List ℕ → Imported → List ℕ
log_output call (import.refused_line n line) = []
log_output call (import.refused n) = []
log_output call (import.told is) = output (capture call (entries_from 0 is) (replies_of is))

abbrev pub log_errors : List ℕ → Imported → List ℕ
log_errors call (import.refused_line n line) = shown (in_full (import.refused_line n line))
log_errors call (import.refused n) = shown (in_full (import.refused n))
log_errors call (import.told is) =
    errors (lines_from 0 (others is) ++ reported (given_up_from 0 is - 4096)) (capture call (entries_from 0 is) (replies_of is))

-- `log2uds REQUEST REPLY CALL`.
pub record Log (ask answer : ℕ) (call : List ℕ) (ended : Bool) (n : ℕ) (whole : List ℕ) (m : ℕ) (said : List ℕ) : Type 0 where
  pub text : List ℕ
  pub settled : Settled ask answer ended text
  pub output : take n whole ≡ log_output call (imported ask answer text)
  pub errors : take m said ≡ log_errors call (imported ask answer text)
