-- A frame is its data bytes, at most eight. (An empty one reads as a single frame of length 0.)
use Rattle.std.specs.Prelude.{ℕ, ◌+◌, ◌*◌, ◌/◌, ◌%◌, Bool, cond, not, ◌&&◌, List, leb, eqb, length, get_or}

-- The first byte's high half says what frame it is: 0 single, 1 first, 2 consecutive, 3 flow control.
abbrev pub kind : List ℕ → ℕ
kind f = get_or f 0 0 / 16

-- Its low half: a single frame's length, the upper part of a first frame's length, a consecutive frame's number.
abbrev pub low : List ℕ → ℕ
low f = get_or f 0 0 % 16

-- "12-bit lengths"
abbrev pub announced : List ℕ → ℕ
announced f = low f * 256 + get_or f 1 0

-- "single with length 0 or above 7 or beyond the bytes there" is no frame,
abbrev pub is_single : List ℕ → Bool
is_single f = leb 1 (low f) && leb (low f) 7 && leb (low f + 1) (length f)

-- nor is "first with a length under 8 .. or fewer than 8 bytes",
abbrev pub is_first : List ℕ → Bool
is_first f = leb 8 (announced f) && leb 8 (length f)

-- nor are types 3 to F: such frames say nothing, whatever is under way.
abbrev pub inert : List ℕ → Bool
inert f = cond (eqb (kind f) 0) (not (is_single f)) (cond (eqb (kind f) 1) (not (is_first f)) (not (eqb (kind f) 2)))

abbrev pub is_flow_control : List ℕ → Bool
is_flow_control f = eqb (kind f) 3
