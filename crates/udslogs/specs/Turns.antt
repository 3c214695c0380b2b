-- What the functions of `udslogs` do that read and write: what is held of the file, what came, and what stands in the buffers that are written.
use Rattle.std.specs.Prelude.{ℕ, ◌+◌, ◌≤◌, List, ◌++◌, ◌≡◌, eqb, length, take, drop}
use Rattle.log_lines.specs.Batches.{Batched, Ended}
use Rattle.log_lines.specs.declared.Batch.{Batch}
use Rattle.log_lines.specs.declared.Ending.{Ending}
use Rattle.udslogs.specs.declared.Run.{Run}

-- What is held stands in the buffer of what was read.
abbrev pub Inside : Run → List ℕ → Type 0
Inside run input = run.from + run.held ≤ length input

abbrev pub held_of : Run → List ℕ → List ℕ
held_of run input = take run.held (drop run.from input)

-- The lines of what is held stand at the front of one buffer, and what is said of it at the front of the other, so many bytes as the batch says;
-- these are printed. What was taken is no longer held.
pub record Printed (run : Run) (input : List ℕ) (r : Run) (out said : List ℕ) : Type 0 where
  pub batch : Batch
  pub batched : Batched run.left run.logs (held_of run input) batch out said
  pub inside : Inside r input
  pub held : held_of r input ≡ drop batch.taken (held_of run input)
  pub left : r.left ≡ batch.left
  pub logs : r.logs ≡ batch.logs
  pub waits : r.waits ≡ eqb batch.taken 0

-- So many bytes came, and stand behind what was held; none where the file has ended.
pub record Read (run : Run) (input : List ℕ) (r : Run) (after : List ℕ) : Type 0 where
  pub came : List ℕ
  pub inside : Inside r after
  pub held : held_of r after ≡ held_of run input ++ came
  pub left : r.left ≡ run.left
  pub logs : r.logs ≡ run.logs
  pub ended : r.ended ≡ eqb (length came) 0

-- The line of what is held where nothing more comes, and what is said of it, stand at the front of the buffers, so many bytes as the end says; these
-- are printed.
pub record Closed (run : Run) (input before unsaid after told : List ℕ) : Type 0 where
  pub end : Ending
  pub ended : Ended run.left run.logs (held_of run input) before unsaid end after told
