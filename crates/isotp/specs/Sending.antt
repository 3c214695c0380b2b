-- What a correct sender sends.
use Rattle.std.specs.Prelude.{ℕ, zero, suc, ◌+◌, ◌-◌, ◌*◌, ◌/◌, ◌%◌, cond, List, [], ◌∷◌, ◌++◌, leb, length, take, drop}

-- A frame with any bytes behind it, as far as eight have room. No padding is [].
abbrev pub padded : List ℕ → List ℕ → List ℕ
padded pad f = f ++ take (8 - length f) pad

abbrev pub single : List ℕ → List ℕ
single m = length m ∷ m

abbrev pub first : List ℕ → List ℕ
first m = (0x10 + length m / 256) ∷ length m % 256 ∷ take 6 m

-- "Sequence numbers run modulo 16 from 1."
abbrev pub number : ℕ → ℕ
number k = (k + 1) % 16

-- Where consecutive frame k (from 0) begins in the message, and the frame.
abbrev pub start : ℕ → ℕ
start k = 6 + k * 7

abbrev pub consecutive : List ℕ → ℕ → List ℕ
consecutive m k = (0x20 + number k) ∷ take 7 (drop (start k) m)

-- c consecutive frames, from frame k on.
unfoldable pub consecutives : List ℕ → List ℕ → ℕ → ℕ → List (List ℕ)
consecutives pad m zero k = []
consecutives pad m (suc c) k = padded pad (consecutive m k) ∷ consecutives pad m c (suc k)

-- A message of up to 7 bytes is one frame. Any other is a first frame and as many consecutive ones as its length has sevens: 6 bytes stand in the first.
unfoldable pub segment : List ℕ → List ℕ → List (List ℕ)
segment pad m =
    cond (leb (length m) 7) (padded pad (single m) ∷ []) (padded pad (first m) ∷ consecutives pad m (length m / 7) 0)
