-- Characters, runs of them, and the numbers that digits stand for.
use Rattle.std.specs.Prelude.{ℕ, ◌+◌, ◌-◌, ◌*◌, ◌%◌, Bool, cond, ◌&&◌, ◌||◌, List, [], ◌∷◌, leb, eqb}

abbrev pub between : ℕ → ℕ → ℕ → Bool
between least most c = leb least c && leb c most

-- The classes of characters that the grammar names; hex digits are of either case.
pub data Class : Type 0 where
  Space : Class
  Digit : Class
  Hex : Class
  Printable : Class

unfoldable pub is : Class → ℕ → Bool
is Space c = eqb c 32
is Digit c = between 48 57 c
is Hex c = between 48 57 c || between 65 70 c || between 97 102 c
is Printable c = between 0x21 0x7e c

-- The run of a class in front, and what follows it.
unfoldable pub run : Class → List ℕ → List ℕ
run k [] = []
run k (c ∷ t) = let more = c ∷ run k t in cond (is k c) more []

unfoldable pub past : Class → List ℕ → List ℕ
past k [] = []
past k (c ∷ t) = let more = past k t in cond (is k c) more (c ∷ t)

-- What a hex digit of either case is worth. (Of any other character: some number below 16.)
unfoldable pub worth : ℕ → ℕ
worth c = cond (leb c 57) (c - 48) (cond (leb c 70) (c - 55) (c - 87)) % 16

-- The number that digits to a base stand for, read on from v.
abbrev pub number : ℕ → ℕ → List ℕ → ℕ
number base v [] = v
number base v (c ∷ t) = number base (v * base + worth c) t

-- Pairs of hex digits as bytes.
abbrev pub pairs : List ℕ → List ℕ
pairs [] = []
pairs (c ∷ []) = []
pairs (c ∷ d ∷ t) = (worth c * 16 + worth d) ∷ pairs t
