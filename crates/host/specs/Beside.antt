-- What the door answers beside a call: a block, the faults that a mask selects, a controller's reply.
use Rattle.std.specs.Prelude as code
use Rattle.std.specs.Prelude.{Some, None, Result, Ok, Err}
use Rattle.std.specs.Prelude.{ℕ, ◌-◌, ◌*◌, ◌^◌, ◌≡◌, List, [], ◌∷◌, length}
use Rattle.rules.specs.Blocks.{block, carried}
use Rattle.blocks.specs.Cuts.{cut}
use Rattle.bench.specs.Responder.{Response, replied, silent, refused, respond}

-- A block: its counter, where it begins and how long it is; or why there is none.
abbrev pub block_in : List ℕ → ℕ → ℕ → List ℕ → Result ℕ ℕ → List ℕ
block_in bytes n k before (Ok c) = c ∷ k * carried n ∷ length (block bytes n k) ∷ []
block_in bytes n k before (Err r) = before

abbrev pub refusal_in : Result ℕ ℕ → ℕ
refusal_in (Ok c) = 0
refusal_in (Err r) = r

pub record Blocked (bytes : List ℕ) (n k : ℕ) (before : List ℕ) (r : ℕ) (after : List ℕ) : Type 0 where
  pub refusal : r ≡ refusal_in (cut bytes n k)
  pub block : after ≡ block_in bytes n k before (cut bytes n k)

-- Where a record begins; the largest number, which no place reaches, where there is none.
abbrev pub place_in : code.Option ℕ → ℕ
place_in (Some n) = n
place_in None = 2 ^ 64 - 1

-- A reply's length; 0 for silence. A refusal tells none.
abbrev pub size_of : List ℕ → Response → List ℕ
size_of before (replied r) = length r ∷ []
size_of before silent = 0 ∷ []
size_of before (refused n) = before

abbrev pub refusal_of : Response → ℕ
refusal_of (replied r) = 0
refusal_of silent = 0
refusal_of (refused n) = n

-- The reply to a request, and what stands afterwards in the store and in the buffer.
pub record Replies (l q before told : List ℕ) (r : ℕ) (l' after told' : List ℕ) : Type 0 where
  pub refusal : r ≡ refusal_of (respond l q before).response
  pub size : told' ≡ size_of told (respond l q before).response
  pub store : l' ≡ (respond l q before).store
  pub buffer : after ≡ (respond l q before).buffer
