-- A whole run over a file that comes in pieces.
use Rattle.std.specs.Prelude.{ℕ, ◌≤◌, ◌<◌, ◌^◌, true, List, [], ◌∷◌, ◌++◌, ◌≡◌, length, take, drop}
use Rattle.rules.specs.Bytes.{every, is_byte}
use Rattle.log_files.specs.Files.{lines_of}
use Rattle.log_files.specs.Said.{said_of}
use Rattle.log_lines.specs.declared.Batch.{Batch}
use Rattle.log_lines.specs.declared.Ending.{Ending}
use Rattle.log_lines.specs.Batches.{Waits, Batched, Ended}

-- The lines that are written and what is said, from so many bytes to be passed over, the logs that were told, what is held of the file, and the
-- pieces that are still to come.
pub data Run : ℕ → ℕ → List ℕ → List (List ℕ) → List ℕ → List ℕ → Type 0 where
  -- the lines of what is held, as many as there is room for
  takes : {left logs : ℕ} {held : List ℕ} {pieces : List (List ℕ)} {written told out said : List ℕ} {b : Batch} →
      Batched left logs held b out said → Run b.left b.logs (drop b.taken held) pieces written told →
      Run left logs held pieces (take b.written out ++ written) (take b.said said ++ told)
  -- the next piece comes
  reads : {left logs : ℕ} {held piece : List ℕ} {pieces : List (List ℕ)} {written told : List ℕ} →
      Run left logs (held ++ piece) pieces written told → Run left logs held (piece ∷ pieces) written told
  -- nothing can be taken, and nothing more comes
  ends : {left logs : ℕ} {held before unsaid after told : List ℕ} {r : Ending} →
      Waits left held → Ended left logs held before unsaid r after told → 8222 ≤ length before → 60 ≤ length unsaid →
      Run left logs held [] (take r.written after) (take r.said told)

abbrev pub joined : List (List ℕ) → List ℕ
joined [] = []
joined (piece ∷ pieces) = piece ++ joined pieces

-- However a file is cut into pieces, and wherever the buffers are full, its lines are written, and nothing else.
abbrev pub HoweverItComes : Type 0
HoweverItComes =
    (pieces : List (List ℕ)) (written told : List ℕ) → every is_byte (joined pieces) ≡ true → Run 0 0 [] pieces written told →
    written ≡ lines_of (joined pieces)

-- And what is said of it is said, and nothing else, of a file of fewer than 2 ^ 64 bytes.
abbrev pub HoweverItIsSaid : Type 0
HoweverItIsSaid =
    (pieces : List (List ℕ)) (written told : List ℕ) → length (joined pieces) < 2 ^ 64 → Run 0 0 [] pieces written told →
    told ≡ said_of (joined pieces)
