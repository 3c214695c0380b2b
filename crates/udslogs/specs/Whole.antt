-- A whole run: the functions that read and write, in the order in which `main` calls them.
use Rattle.std.specs.Prelude.{ℕ, ◌≤◌, ◌<◌, ◌^◌, true, List, [], ◌∷◌, ◌++◌, ◌≡◌, length, take}
use Rattle.rules.specs.Bytes.{every, is_byte}
use Rattle.log_files.specs.Files.{lines_of}
use Rattle.log_files.specs.Said.{said_of}
use Rattle.log_lines.specs.Batches.{Waits}
use Rattle.log_lines.specs.Runs.{joined}
use Rattle.udslogs.specs.declared.Run.{Run}
use Rattle.udslogs.specs.Turns.{held_of, Printed, Read, Closed}

-- From a run and the buffer of what was read: the pieces that come, what is printed on standard output, and on standard error.
pub data Turns : Run → List ℕ → List (List ℕ) → List ℕ → List ℕ → Type 0 where
  prints : {run r : Run} {input out said written told : List ℕ} {pieces : List (List ℕ)} (p : Printed run input r out said) →
      Turns r input pieces written told → Turns run input pieces (take p.batch.written out ++ written) (take p.batch.said said ++ told)
  reads : {run r : Run} {input after written told : List ℕ} {pieces : List (List ℕ)} (p : Read run input r after) →
      Turns r after pieces written told → Turns run input (p.came ∷ pieces) written told
  closes : {run : Run} {input before unsaid after told : List ℕ} → Waits run.left (held_of run input) →
      (c : Closed run input before unsaid after told) →
      8222 ≤ length before → 60 ≤ length unsaid → Turns run input [] (take c.end.written after) (take c.end.said told)

-- Where a run begins: nothing is held, and no log was told.
abbrev pub Begun : Run → Type 0
Begun run = (run.left ≡ 0) × (run.logs ≡ 0) × (run.held ≡ 0)

-- The file is what came, and its lines are printed, and what is said of it, and nothing else.
abbrev pub PrintsItsLines : Type 0
PrintsItsLines =
    (run : Run) (input : List ℕ) (pieces : List (List ℕ)) (written told : List ℕ) → Begun run → every is_byte (joined pieces) ≡ true →
    Turns run input pieces written told → written ≡ lines_of (joined pieces)

abbrev pub SaysWhatIsOff : Type 0
SaysWhatIsOff =
    (run : Run) (input : List ℕ) (pieces : List (List ℕ)) (written told : List ℕ) → Begun run → length (joined pieces) < 2 ^ 64 →
    Turns run input pieces written told → told ≡ said_of (joined pieces)
