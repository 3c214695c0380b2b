-- A line of `candump -L`: (SECONDS.MICROSECONDS) INTERFACE IDENTIFIER#CONTENT[ DIRECTION]
use Rattle.std.specs.Prelude.{ℕ, ◌+◌, ◌*◌, ◌%◌, Bool, true, false, cond, ◌&&◌, ◌||◌, List, [], ◌∷◌, leb, eqb, length, get_or, drop}
use Rattle.candump.specs.Text.{between, Space, Digit, Hex, Printable, run, past, number, pairs}

pub data Line : Type 0 where
  blank : Line
  unreadable : Line
  -- A remote, CAN FD or error frame: its time in microseconds.
  other : ℕ → Line
  -- A classic data frame: time, identifier (one of 29 bits is 80000000 hex more, as SocketCAN has it), data.
  frame : ℕ → ℕ → List ℕ → Line

-- The first character, 0 where there is none; and the rest.
abbrev pub front : List ℕ → ℕ
front t = get_or t 0 0

abbrev pub rest : List ℕ → List ℕ
rest t = drop 1 t

abbrev pub none : List ℕ → Bool
none [] = true
none (c ∷ t) = false

abbrev pub some : List ℕ → Bool
some [] = false
some (c ∷ t) = true

-- "`R` or `T`"
abbrev pub is_direction : ℕ → Bool
is_direction c = eqb c 82 || eqb c 84

-- "perhaps one or more spaces and `R` or `T`; then spaces, perhaps none"
unfoldable pub ends : List ℕ → Bool
ends t = none (past Space t) || (some (run Space t) && is_direction (front (past Space t)) && none (past Space (rest (past Space t))))

-- "0 to 8 pairs of hex digits"
unfoldable pub is_data : List ℕ → Bool
is_data t = eqb (length (run Hex t) % 2) 0 && leb (length (run Hex t)) 16 && ends (past Hex t)

-- "`R`, perhaps with a digit 0 to 8"
unfoldable pub is_remote : List ℕ → Bool
is_remote t = eqb (front t) 82 && ends (cond (between 48 56 (front (rest t))) (rest (rest t)) (rest t))

-- "`#`, one hex digit, 0 to 64 pairs"
unfoldable pub is_fd : List ℕ → Bool
is_fd t = eqb (front t) 35 && eqb (length (run Hex (rest t)) % 2) 1 && leb (length (run Hex (rest t))) 129 && ends (past Hex (rest t))

-- Data of an identifier "from 20000000 on .. is an error frame".
unfoldable pub classic : ℕ → ℕ → List ℕ → Line
classic time id bytes = cond (leb id 0x9fffffff) (frame time id bytes) (other time)

unfoldable pub content : ℕ → ℕ → List ℕ → Line
content time id t = cond (is_data t) (classic time id (pairs (run Hex t))) (cond (is_remote t || is_fd t) (other time) unreadable)

-- "three hex digits up to 7FF, or eight up to 3FFFFFFF": how many digits, and their number.
abbrev pub is_identifier : ℕ → ℕ → Bool
is_identifier n v = (eqb n 3 && leb v 0x7ff) || (eqb n 8 && leb v 0x3fffffff)

abbrev pub identifier : ℕ → ℕ → ℕ
identifier n v = cond (eqb n 3) v (0x80000000 + v)

-- From the identifier on, n digits of which with the number v stand before t.
unfoldable pub identified : ℕ → ℕ → ℕ → List ℕ → Line
identified time n v t =
    let digits = run Hex t in
    let after = past Hex t in
    let size = n + length digits in
    let value = number 16 v digits in
    cond (is_identifier size value && eqb (front after) 35) (content time (identifier size value) (rest after)) unreadable

-- "one or more spaces; INTERFACE one or more bytes 21 to 7E; one or more spaces"
unfoldable pub unnamed : ℕ → List ℕ → Line
unnamed time t = cond (some (run Space t)) (identified time 0 0 (past Space t)) unreadable

unfoldable pub named : ℕ → List ℕ → Line
named time t = cond (some (run Printable t)) (unnamed time (past Printable t)) unreadable

unfoldable pub timed : ℕ → List ℕ → Line
timed time t = cond (some (run Space t)) (named time (past Space t)) unreadable

-- "MICROSECONDS exactly 6"
unfoldable pub micros : ℕ → ℕ → ℕ → List ℕ → Line
micros seconds n v t =
    let digits = run Digit t in
    let after = past Digit t in
    cond (eqb (n + length digits) 6 && eqb (front after) 41) (timed (seconds * 1000000 + number 10 v digits) (rest after)) unreadable

-- "SECONDS 1 to 10 digits"
unfoldable pub seconds : ℕ → ℕ → List ℕ → Line
seconds n v t =
    let digits = run Digit t in
    let after = past Digit t in
    cond (between 1 10 (n + length digits) && eqb (front after) 46) (micros (number 10 v digits) 0 0 (rest after)) unreadable

unfoldable pub opened : List ℕ → Line
opened t = cond (eqb (front t) 40) (seconds 0 0 (rest t)) unreadable

-- "one CR may stand before the LF"
unfoldable pub bare : List ℕ → List ℕ
bare [] = []
bare (c ∷ []) = cond (eqb c 13) [] (c ∷ [])
bare (c ∷ d ∷ t) = c ∷ bare (d ∷ t)

-- "A line of nothing but spaces (and the CR) is blank"
abbrev pub whole : List ℕ → Line
whole t = cond (none (past Space t)) blank (opened t)

unfoldable pub read : List ℕ → Line
read l = whole (bare l)
