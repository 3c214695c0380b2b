-- The tests of a store's layout, as the code asks them: those of the header, those of where the areas stand, and the last.
use mathlib.Core.Bool.{Bool, ◌&&◌, and_assoc, and-true}
use mathlib.Core.Path.{◌≡◌}
use mathlib.Core.List.{List}
use Prim.Native.Nat.{ℕ}
use Rattle.rules.specs.Bytes.{every}
use Rattle.bench.specs.Stores.{store_of, known, store_ok}
use Rattle.stores.specs.Places.{header_ok, gapless}

in_three : (l : List ℕ) → (header_ok l && gapless l && every (known (store_of l)) (store_of l).slots) ≡ store_ok l
unfolding store_ok
in_three l = simp (and_assoc, and-true)

pub asked : (l : List ℕ) {a b : Bool} → header_ok l ≡ a → gapless l ≡ b → (a && b && every (known (store_of l)) (store_of l).slots) ≡ store_ok l
asked l h k = rw (← h, ← k) (in_three l)
