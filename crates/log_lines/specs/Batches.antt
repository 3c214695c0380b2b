-- What a part of a file gives, whatever comes behind it.
use Rattle.std.specs.Prelude as code
use Rattle.std.specs.Prelude.{Some, None}
use Rattle.std.specs.Prelude.{ℕ, suc, ◌+◌, ◌≤◌, ◌<◌, ◌^◌, true, cond, ◌&&◌, List, [], ◌++◌, ◌⊎◌, ◌≡◌, leb, ltb, length, take, drop}
use Rattle.rules.specs.Bytes.{every, is_byte}
use Rattle.rules.specs.Lines.{badlog}
use Rattle.text.specs.Written.{put}
use Rattle.log_files.specs.Files.{size, lines_of}
use Rattle.log_files.specs.Said.{cut_line, said_from}
use Rattle.log_lines.specs.declared.Batch.{Batch}
use Rattle.log_lines.specs.declared.Ending.{Ending}

-- Of `left` bytes from `at` on, among n.
abbrev pub Passed : ℕ → ℕ → ℕ → ℕ → ℕ → ℕ → Batch → Type 0
Passed left at n written logs said r =
    (r.taken ≤ n) × (r.taken + r.left ≡ at + left) × (at ≤ r.taken) × (r.written ≡ written) × (0 < r.left → r.taken ≡ n) × (r.logs ≡ logs) ×
    (r.said ≡ said)

-- What is behind a batch, once more bytes have come.
abbrev pub behind : Batch → List ℕ → List ℕ → List ℕ
behind b input more = drop b.left (drop b.taken (input ++ more))

-- The lines that stand already and those of what is behind: no step changes them, whatever bytes come.
abbrev pub whole : Batch → List ℕ → List ℕ → List ℕ → List ℕ
whole b input out more = take b.written out ++ lines_of (behind b input more)

-- What is said of a file of which so many logs were told, the last of which goes on for `left` bytes.
abbrev pub said_behind : ℕ → ℕ → List ℕ → List ℕ
said_behind left logs file = cond (leb left (length file)) (said_from (suc logs) (drop left file)) (cut_line logs)

-- The same of what is said as of the lines.
abbrev pub whole_said : Batch → List ℕ → List ℕ → List ℕ → List ℕ
whole_said b input said more = take b.said said ++ said_behind b.left b.logs (drop b.taken (input ++ more))

-- The number of a log behind so many logs. It has 64 bits, and no file has so many logs that it is not enough.
abbrev pub following : ℕ → ℕ
following logs = cond (ltb logs 18446744073709551615) (suc logs) logs

-- So many logs, and a file behind them: no log has less than a byte, so no number is above 2 ^ 64.
abbrev pub Counts : ℕ → List ℕ → Type 0
Counts logs file = logs + length file < 2 ^ 64

-- Only a log that goes on behind the input is still to be passed over.
abbrev pub Over : Batch → List ℕ → Type 0
Over b input = 0 < b.left → b.taken ≡ length input

-- The next log is not whole, and its length is not there or one that a log can have.
abbrev pub NotWhole : List ℕ → Type 0
NotWhole file = (length file < 4 + size file) × (4 ≤ length file → size file ≤ 65535)

-- Nothing can be taken of what is held, however much room there is: it is of a log that is too long and goes on, or a log that is not whole.
abbrev pub Waits : ℕ → List ℕ → Type 0
Waits left held = left < length held → (left ≡ 0) × NotWhole held

-- Why nothing more is taken: a log that is too long goes on; or there is no room for another line, or for what is said of a log; or the next log is
-- not whole.
abbrev pub Stops : Batch → List ℕ → ℕ → ℕ → Type 0
Stops b input room room_to_say =
    (0 < b.left) ⊎ ((room < b.written + 8222) ⊎ ((room_to_say < b.said + 60) ⊎ NotWhole (drop b.taken input)))

-- A log more.
pub record Goes (b : Batch) (input before said : List ℕ) (r : Batch) (after told : List ℕ) : Type 0 where
  pub inside : r.taken ≤ length input
  pub room : r.written ≤ length after
  pub room_to_say : r.said ≤ length told
  pub over : Over r input
  pub same : (more : List ℕ) → every is_byte more ≡ true → whole b input before more ≡ whole r input after more
  pub says : (more : List ℕ) → Counts b.logs (drop b.taken (input ++ more)) → whole_said b input said more ≡ whole_said r input told more
  pub counts : r.logs + b.taken ≤ b.logs + r.taken
  pub on : b.taken < r.taken

-- One step: a log more, or nothing more to take, and all stays as it was.
abbrev pub Steps : Batch → List ℕ → List ℕ → List ℕ → code.Option Batch → List ℕ → List ℕ → Type 0
Steps b input before said (Some r) after told = Goes b input before said r after told
Steps b input before said None after told = (after ≡ before) × (told ≡ said) × Stops b input (length before) (length said)

-- The lines of what was taken stand at the front of one buffer, and what is said of it at the front of another; no log that could be taken is left.
pub record Batched (left logs : ℕ) (input : List ℕ) (r : Batch) (out said : List ℕ) : Type 0 where
  pub inside : r.taken ≤ length input
  pub room : r.written ≤ length out
  pub room_to_say : r.said ≤ length said
  pub over : Over r input
  pub lines : (more : List ℕ) → every is_byte more ≡ true → lines_of (drop left (input ++ more)) ≡ take r.written out ++ lines_of (behind r input more)
  pub says : (more : List ℕ) → Counts logs (input ++ more) →
      said_behind left logs (input ++ more) ≡ take r.said said ++ said_behind r.left r.logs (drop r.taken (input ++ more))
  pub counts : r.logs ≤ logs + r.taken
  pub none : r.taken ≡ 0 → (r.written ≡ 0) × (r.said ≡ 0)
  pub stops : Stops r input (length out) (length said)

-- What is said behind the end of a file: a log that goes on for `left` bytes is cut where n bytes are fewer; what is more is the next log, cut.
abbrev pub said_at_end : ℕ → ℕ → ℕ → List ℕ
said_at_end left logs n = cond (ltb n left) (cut_line logs) (cond (ltb left n) (cut_line (following logs)) [])

-- Behind the end of a file of which n bytes are held: a bad log's line, where they are more than those to be passed over.
pub record Rest (left n : ℕ) (before : List ℕ) (r : ℕ) (after : List ℕ) : Type 0 where
  pub count : r ≡ cond (ltb left n && leb 8222 (length before)) (length badlog) 0
  pub line : after ≡ cond (ltb left n && leb 8222 (length before)) (put before 0 badlog) before

-- And what is said of it.
pub record Cut (left logs n : ℕ) (before : List ℕ) (r : ℕ) (after : List ℕ) : Type 0 where
  pub count : r ≡ cond (leb 60 (length before)) (length (said_at_end left logs n)) 0
  pub line : after ≡ cond (leb 60 (length before)) (put before 0 (said_at_end left logs n)) before

abbrev pub Ended : ℕ → ℕ → List ℕ → List ℕ → List ℕ → Ending → List ℕ → List ℕ → Type 0
Ended left logs input before said r after told = Rest left (length input) before r.written after × Cut left logs (length input) said r.said told
