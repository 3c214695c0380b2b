-- A copy into a lent buffer.
use Rattle.std.specs.Prelude.{ℕ, ◌+◌, Bool, cond, ◌≡◌, List, ◌++◌, leb, length, take, drop}

-- Whether the source fits into the buffer at an index.
abbrev pub fits : List ℕ → ℕ → List ℕ → Bool
fits buffer at source = leb (at + length source) (length buffer)

-- The buffer with the source at that index, where it fits.
unfoldable pub with : List ℕ → ℕ → List ℕ → List ℕ
with buffer at source = cond (fits buffer at source) (take at buffer ++ source ++ drop (at + length source) buffer) buffer

pub record Copied (before : List ℕ) (at : ℕ) (source : List ℕ) (done : Bool) (after : List ℕ) : Type 0 where
  pub told : done ≡ fits before at source
  pub buffer : after ≡ with before at source
