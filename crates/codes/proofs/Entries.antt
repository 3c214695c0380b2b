-- A list that holds the answers for n numbers, in their order, holds at each place the answer for that number.
use Rattle.std.proofs.Common.{◌≡◌, ℕ, ◌<◌, get_or, map, arith}
use Rattle.std.proofs.lemmas.List.FromFn.{get_or-map-range_with_len}
use Rattle.rules.specs.Codes.{count_from}

pub entry : (f : ℕ → ℕ) (n i : ℕ) → i < n → get_or (map f (count_from 0 n)) i 0 ≡ f i
entry f n i h = get_or-map-range_with_len f 0 n i i 0 h (omega arith)
