-- The frames of a bus, as a text has them, and one identifier's among them.
use Rattle.std.specs.Prelude.{ℕ, cond, not, ◌&&◌, List, [], ◌∷◌, ◌++◌, map, eqb}
use Rattle.isotp.specs.Frames.{inert}
use Rattle.isotp.specs.Joining.{State, Fed, passed, feed, Told, tells}

-- A frame's line, its time, its identifier (one of 29 bits is 80000000 hex more, as SocketCAN has it) and its data.
pub record Frame : Type 0 where
  pub line : ℕ
  pub time : ℕ
  pub id : ℕ
  pub bytes : List ℕ

-- What is told, and of which frame: "A message has its last frame's time", a drop "says which line".
pub record Note : Type 0 where
  pub line : ℕ
  pub time : ℕ
  pub told : Told

abbrev pub noted : Frame → Told → Note
noted f t = record { line = f.line; time = f.time; told = t }

-- Frames of other identifiers change nothing.
abbrev pub listen : ℕ → State → Frame → Fed
listen id s f = cond (eqb f.id id) (feed s f.bytes) (passed s)

unfoldable pub listened : ℕ → State → List Frame → List Note
listened id s [] = []
listened id s (f ∷ fs) =
    map (noted f) (tells (listen id s f).drops (listen id s f).gives) ++ listened id (listen id s f).state fs

-- The identifier's frames that say something.
unfoldable pub ours : ℕ → List Frame → List (List ℕ)
ours id [] = []
ours id (f ∷ fs) = cond (eqb f.id id && not (inert f.bytes)) (f.bytes ∷ ours id fs) (ours id fs)
