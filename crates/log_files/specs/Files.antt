-- A file of logs, each after its length as u32, big-endian; and the lines that it gives.
use Rattle.std.specs.Prelude.{ℕ, zero, suc, ◌+◌, cond, List, [], ◌++◌, leb, eqb, length, take, drop}
use Rattle.rules.specs.Bytes.{u32_at, four}
use Rattle.rules.specs.Lines.{badlog}
use Rattle.rules.specs.Logs.{line_of}

-- The length that a file begins with, the log behind it, and what comes behind that.
abbrev pub size : List ℕ → ℕ
size file = u32_at file 0

abbrev pub first : List ℕ → List ℕ
first file = take (size file) (drop 4 file)

abbrev pub rest : List ℕ → List ℕ
rest file = drop (4 + size file) file

-- The lines of at most n logs. A file that ends inside a log, or inside its length, ends in a bad log.
unfoldable pub lines_to : ℕ → List ℕ → List ℕ
lines_to zero file = []
lines_to (suc n) file =
    cond (eqb (length file) 0) []
    (cond (leb (4 + size file) (length file)) (line_of (first file) ++ lines_to n (rest file)) badlog)

-- No log takes less than its length's four bytes, so a file has fewer logs than bytes.
unfoldable pub lines_of : List ℕ → List ℕ
lines_of file = lines_to (length file) file

-- A log as a file has it.
abbrev pub framed : List ℕ → List ℕ
framed log = four (length log) ++ log
