-- The frames of one identifier, joined.
use Rattle.std.specs.Prelude.{ℕ, ◌+◌, ◌-◌, ◌%◌, min, Bool, true, false, cond, List, [], ◌∷◌, ◌++◌, leb, eqb, length, take, drop}
use Rattle.std.proofs.Math.Option.{Option, none, some}
use Rattle.isotp.specs.Frames.{kind, low, announced, is_single, is_first}

pub data State : Type 0 where
  idle : State
  -- The bytes still due, the next frame's number, the bytes so far.
  under : ℕ → ℕ → List ℕ → State

-- What one frame does. "the message under way is dropped .., the new one goes on": a frame may do both.
pub record Fed : Type 0 where
  pub state : State
  pub drops : Bool
  pub gives : Option (List ℕ)

abbrev pub fed : State → Bool → Option (List ℕ) → Fed
fed s d m = record { state = s; drops = d; gives = m }

abbrev pub passed : State → Fed
passed s = fed s false none

abbrev pub busy : State → Bool
busy idle = false
busy (under due n bs) = true

-- Behind a frame with the right number: these are the bytes so far, and so many were due before it.
abbrev pub grown : ℕ → ℕ → List ℕ → Fed
grown due n bs = cond (leb due 7) (fed idle false (some bs)) (fed (under (due - 7) ((n + 1) % 16) bs) false none)

-- The number first ("dropped and told"), then too short ("passed over"). Without a message under way the frame is passed over.
abbrev pub goes_on : State → List ℕ → Fed
goes_on idle f = passed idle
goes_on (under due n bs) f =
    cond (eqb (low f) n)
    (cond (leb (min 7 due + 1) (length f)) (grown due n (bs ++ take (min 7 due) (drop 1 f))) (passed (under due n bs)))
    (fed idle true none)

abbrev pub singles : State → List ℕ → Fed
singles s f = cond (is_single f) (fed idle (busy s) (some (take (low f) (drop 1 f)))) (passed s)

abbrev pub firsts : State → List ℕ → Fed
firsts s f = cond (is_first f) (fed (under (announced f - 6) 1 (take 6 (drop 2 f))) (busy s) none) (passed s)

unfoldable pub feed : State → List ℕ → Fed
feed s f = cond (eqb (kind f) 0) (singles s f) (cond (eqb (kind f) 1) (firsts s f) (cond (eqb (kind f) 2) (goes_on s f) (passed s)))

-- What is told of the frames: messages and drops, a frame's drop before its message.
pub data Told : Type 0 where
  message : List ℕ → Told
  dropped : Told

abbrev pub tells : Bool → Option (List ℕ) → List Told
tells false none = []
tells false (some m) = message m ∷ []
tells true none = dropped ∷ []
tells true (some m) = dropped ∷ message m ∷ []

unfoldable pub join : State → List (List ℕ) → List Told
join s [] = []
join s (f ∷ fs) = tells (feed s f).drops (feed s f).gives ++ join (feed s f).state fs
