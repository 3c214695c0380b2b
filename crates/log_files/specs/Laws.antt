-- What is promised of a file's lines, and of what is said of it.
use Rattle.std.specs.Prelude.{ℕ, suc, ◌+◌, ◌≤◌, ◌<◌, Bool, true, List, [], ◌∷◌, ◌++◌, ◌≡◌, leb, length, take}
use Rattle.rules.specs.Bytes.{every, is_byte}
use Rattle.rules.specs.Lines.{badlog}
use Rattle.rules.specs.Logs.{line_of}
use Rattle.log_files.specs.Files.{lines_of, framed}
use Rattle.log_files.specs.Said.{cut_line, length_line, said_from, said_of}

-- The file of these logs, and their lines.
abbrev pub file_of : List (List ℕ) → List ℕ
file_of [] = []
file_of (log ∷ logs) = framed log ++ file_of logs

abbrev pub lines_of_each : List (List ℕ) → List ℕ
lines_of_each [] = []
lines_of_each (log ∷ logs) = line_of log ++ lines_of_each logs

-- A line for each log, the log's own, in the order of the logs; a bad one among them is a line like the others.
abbrev pub EachItsLine : Type 0
EachItsLine = (logs : List (List ℕ)) → lines_of (file_of logs) ≡ lines_of_each logs

-- Files can be joined, and split where a log ends: each part gives its own lines.
abbrev pub Joins : Type 0
Joins = (logs : List (List ℕ)) (more : List ℕ) → lines_of (file_of logs ++ more) ≡ lines_of_each logs ++ lines_of more

-- No log has more than 65,535 bytes.
abbrev pub LongIsBad : Type 0
LongIsBad = (log : List ℕ) → every is_byte log ≡ true → 65535 < length log → line_of log ≡ badlog

-- No longer than a log can be.
abbrev pub possible : List ℕ → Bool
possible log = leb (length log) 65535

-- Nothing is said of a file of whole logs, and what comes behind them has the numbers behind theirs.
abbrev pub NothingOfWholeLogs : Type 0
NothingOfWholeLogs = (logs : List (List ℕ)) → every possible logs ≡ true → said_of (file_of logs) ≡ []

abbrev pub NumbersGoOn : Type 0
NumbersGoOn =
    (n : ℕ) (logs : List (List ℕ)) (more : List ℕ) → every possible logs ≡ true →
    said_from n (file_of logs ++ more) ≡ said_from (n + length logs) more

-- Wherever a file ends inside a log or its length, one line says so, with the log's number.
abbrev pub CutIsSaid : Type 0
CutIsSaid =
    (logs : List (List ℕ)) (log : List ℕ) (k : ℕ) → every possible logs ≡ true → possible log ≡ true → 0 < k → k < 4 + length log →
    said_of (file_of logs ++ take k (framed log)) ≡ cut_line (1 + length logs)

-- A length that no log has is said, with the log's number and the length. What comes behind so many bytes is the next log.
abbrev pub LengthIsSaid : Type 0
LengthIsSaid =
    (n : ℕ) (log more : List ℕ) → 65535 < length log →
    said_from n (framed log ++ more) ≡ length_line n (length log) ++ said_from (suc n) more

-- Where the file ends inside those bytes, both are said.
abbrev pub BothAreSaid : Type 0
BothAreSaid =
    (n : ℕ) (log : List ℕ) (k : ℕ) → 65535 < length log → 4 ≤ k → k < 4 + length log →
    said_from n (take k (framed log)) ≡ length_line n (length log) ++ cut_line n

-- A file that is made of whole logs.
pub record Logs (file : List ℕ) : Type 0 where
  pub logs : List (List ℕ)
  pub is : file ≡ file_of logs
  pub each : every possible logs ≡ true

-- Of no other file nothing is said.
abbrev pub OnlyOfWholeLogs : Type 0
OnlyOfWholeLogs = (file : List ℕ) → every is_byte file ≡ true → said_of file ≡ [] → Logs file
