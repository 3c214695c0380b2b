-- A log's line through the door.
use Rattle.std.specs.Prelude.{ℕ, cond, ◌≡◌, List, ◌++◌, leb, length, drop}
use Rattle.rules.specs.Logs.{line_of}

-- A log's line stands at the buffer's front, and the answer is its length; where there is no room it is 0, and nothing is touched.
pub record Lined (log before : List ℕ) (r : ℕ) (after : List ℕ) : Type 0 where
  pub size : r ≡ cond (leb (length (line_of log)) (length before)) (length (line_of log)) 0
  pub line : after ≡ cond (leb (length (line_of log)) (length before)) (line_of log ++ drop (length (line_of log)) before) before
