-- From a written line to the door's number.
use Rattle.std.specs.Prelude as code
use Rattle.std.specs.Prelude.{Some, None}
use Rattle.std.specs.Option.{unwrap_or}
use Prim.Native.Nat.{ℕ, ◌≤◌, ◌<◌}
use native.Mathlib.Omega.{arith}
use mathlib.Core.Bool.{Bool, true, false, cond}
use mathlib.Core.Path.{◌≡◌, refl, sym, ◌∙◌, ap}
use mathlib.Core.List.{List, ◌++◌}
use lib.Dec.{leb}
use lib.ListN.{length, get_or, take, drop}
use lib.Seq.{take-append_seam}
use borrow.Author.Tests.{le-leb}
use Rattle.rules.specs.Logs.{line_of}
use Rattle.log_line.proofs.Longest.{line-fits}
use Rattle.text.specs.Written.{Wrote}
use Rattle.line_door.specs.Lined.{Lined}

size-told : (b : Bool) (n : ℕ) → unwrap_or (cond b (Some n) None) 0 ≡ cond b n 0
size-told true n = refl
size-told false n = refl

-- What the writer answers, as a number.
pub lined : {log before after : List ℕ} {w : code.Option ℕ} → Wrote (line_of log) before w after → Lined log before (unwrap_or w 0) after
lined {log} {before} h = record {
  size = ap (λ (w : code.Option ℕ). unwrap_or w 0) h.answer ∙ size-told (leb (length (line_of log)) (length before)) (length (line_of log));
  line = h.line;
}

-- A buffer of 8,222 bytes has room for the line of every log.
pub always-lined : (log : List ℕ) → ((i : ℕ) → get_or log i 0 < 256) → {before after : List ℕ} {r : ℕ} → 8222 ≤ length before → Lined log before r after
    → (r ≡ length (line_of log)) × (take r after ≡ line_of log)
always-lined log bytes {before} {after} {r} room h =
    let fits = le-leb (length (line_of log)) (length before) (omega (arith, line-fits log bytes, room)) in
    let long : r ≡ length (line_of log) = h.size ∙ rw fits in
    let whole : after ≡ line_of log ++ drop (length (line_of log)) before = h.line ∙ rw fits in
    (long, rw (long, whole) (take-append_seam (line_of log) (drop (length (line_of log)) before)))

-- At most one answer fits.
pub line-unique : {log before : List ℕ} {r r' : ℕ} {a a' : List ℕ} → Lined log before r a → Lined log before r' a' → (r ≡ r') × (a ≡ a')
line-unique k h = (k.size ∙ sym h.size, k.line ∙ sym h.line)
