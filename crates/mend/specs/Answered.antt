-- What is answered of a damaged log, and what then stands in the lent buffer.
use Rattle.std.specs.Prelude.{ℕ, cond, List, ◌≡◌, leb, length, Result, Ok, Err}
use Rattle.wire.specs.Buffers.{with}
use Rattle.wire.specs.Refusing.{refusal_number}
use Rattle.logs.specs.Layout.{said}
use Rattle.mending.specs.Mend as mending
use Rattle.mending.specs.Mend.{mend}
use Rattle.mend.specs.declared.MendError.{MendError}
use Rattle.mend.specs.declared.MendError.TheVariants.{Refused, NoRoom}
use Rattle.mend.specs.declared.Report as Told

abbrev pub report_of : Told.Report → mending.Report
report_of r = mending.report (said r.old) (said r.new)

-- A log of so many bytes with its report, a refusal, or no room for the log.
pub data Answer : Type 0 where
  log : ℕ → mending.Report → Answer
  refused : ℕ → Answer
  no_room : Answer

abbrev pub answer_of : Result (ℕ × Told.Report) MendError → Answer
answer_of (Ok x) = log x.0 (report_of x.1)
answer_of (Err (Refused r)) = refused (refusal_number r)
answer_of (Err NoRoom) = no_room

-- With so much room.
abbrev pub answered : mending.Mended → ℕ → Answer
answered (mending.refused n) room = refused n
answered (mending.mended l r) room = cond (leb (length l) room) (log (length l) r) no_room

-- The mended log stands at the buffer's front, and the rest keeps its bytes; "output untouched" where refused, or without room.
abbrev pub left : mending.Mended → List ℕ → List ℕ
left (mending.refused n) out = out
left (mending.mended l r) out = with out 0 l

pub record Mends (damaged before : List ℕ) (r : Result (ℕ × Told.Report) MendError) (after : List ℕ) : Type 0 where
  pub answer : answer_of r ≡ answered (mend damaged) (length before)
  pub buffer : after ≡ left (mend damaged) before
