-- What cutting answers, and all blocks of some data.
use Rattle.std.specs.Prelude.{ℕ, zero, suc, ◌+◌, ◌-◌, ◌/◌, List, [], ◌++◌, length, Result, Ok, Err}
use Rattle.rules.specs.Blocks.{block, counter, cuts, carried}
use Rattle.rules.specs.InOrder.{judge}

-- The counter that block k is sent with, or the number of the refusal. "Order: 11, 12."
unfoldable pub cut : List ℕ → ℕ → ℕ → Result ℕ ℕ
cut bytes n k = judge Err (cuts bytes n k) (Ok (counter k))

-- How many blocks there are.
abbrev pub number : List ℕ → ℕ → ℕ
number bytes n = (length bytes + (carried n - 1)) / carried n

-- The first m blocks, joined in order.
abbrev pub joined : List ℕ → ℕ → ℕ → List ℕ
joined bytes n zero = []
joined bytes n (suc m) = joined bytes n m ++ block bytes n m
