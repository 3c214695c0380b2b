-- Rows for cutting a download: blocks with their counters, the last one short, and both refusals with what stands just beside them.
use Rattle.std.specs.Prelude.{ℕ, ◌≡◌, List, [], ◌∷◌, map, replicate}
use Rattle.rules.specs.Blocks.{block, counter, cuts}
use Rattle.rules.specs.InOrder.{judge}

-- Data, a block length and a block's number; the refusal, or 0 with the block's counter and bytes.
pub record BlockRow : Type 0 where
  pub bytes : List ℕ
  pub size : ℕ
  pub number : ℕ
  pub gives : ℕ × ℕ × List ℕ

abbrev pub block_row : List ℕ → ℕ → ℕ → ℕ × ℕ × List ℕ → BlockRow
block_row bytes n k gives = record { bytes = bytes; size = n; number = k; gives = gives }

abbrev pub cutting : BlockRow → ℕ × ℕ × List ℕ
cutting r = judge (λ n. (n, 0, [])) (cuts r.bytes r.size r.number) (0, counter r.number, block r.bytes r.size r.number)

abbrev pub seven : List ℕ
seven = 1 ∷ 2 ∷ 3 ∷ 4 ∷ 5 ∷ 6 ∷ 7 ∷ []

unfoldable pub block_rows : List BlockRow
block_rows =
    block_row seven 5 0 (0, 1, 1 ∷ 2 ∷ 3 ∷ []) ∷
    block_row seven 5 1 (0, 2, 4 ∷ 5 ∷ 6 ∷ []) ∷
    block_row seven 5 2 (0, 3, 7 ∷ []) ∷
    block_row seven 5 3 (12, 0, []) ∷
    -- A block as long as the data, one longer, and blocks of one byte.
    block_row seven 9 0 (0, 1, seven) ∷
    block_row seven 9 1 (12, 0, []) ∷
    block_row seven 10 0 (0, 1, seven) ∷
    block_row seven 3 6 (0, 7, 7 ∷ []) ∷
    block_row seven 3 7 (12, 0, []) ∷
    -- "Order: 11, 12": a length below 3 also where there is no block; "Empty data has no blocks."
    block_row seven 0 0 (11, 0, []) ∷
    block_row seven 1 0 (11, 0, []) ∷
    block_row seven 2 0 (11, 0, []) ∷
    block_row seven 2 9 (11, 0, []) ∷
    block_row [] 2 0 (11, 0, []) ∷
    block_row [] 3 0 (12, 0, []) ∷
    -- "so 0 follows 255"
    block_row (replicate 300 9) 3 254 (0, 255, 9 ∷ []) ∷
    block_row (replicate 300 9) 3 255 (0, 0, 9 ∷ []) ∷
    block_row (replicate 300 9) 3 256 (0, 1, 9 ∷ []) ∷ []

abbrev pub BlockRows : Type 0
BlockRows = map cutting block_rows ≡ map (λ r. r.gives) block_rows
