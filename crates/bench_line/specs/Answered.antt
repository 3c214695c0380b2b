-- The line that a request line gets, in a lent buffer.
use Rattle.std.specs.Prelude as code
use Rattle.std.specs.Prelude.{Some, None, Ok, Err}
use Rattle.std.specs.Prelude.{ℕ, cond, ◌≤◌, Bool, true, false, ◌≡◌, List, [], ◌∷◌, ◌++◌, leb, length, take, drop}
use Rattle.rules.specs.Bytes.{every}
use Rattle.rules.specs.Lines.{ascii, hex}
use Rattle.rules.specs.Logs.{all}
use Rattle.rules.specs.Refusals.{between}
use Rattle.bench.specs.Talk.{is_digit, is_hex_digit, nibble, unhex, number_from, line_tests, request_in, room_in, newline, Talked, talk}
use Rattle.responder.specs.Responding.{Response}
use Rattle.text.specs.Written.{Put}
use Rattle.bench_line.specs.declared.Asked.{Asked}

-- A number as a length: one of 1 to 4 digits up to 4095, or none.
unfoldable pub room_of : List ℕ → code.Option ℕ
room_of d = cond (all (between 1 4 (length d) ∷ every is_digit d ∷ leb (number_from 0 d) 4095 ∷ [])) (Some (number_from 0 d)) None

-- Behind the first space stands a number; or there is none.
abbrev pub room_behind : List ℕ → code.Option ℕ
room_behind [] = Some 4095
room_behind (c ∷ cs) = room_of cs

-- What a character stands for, if it is a hex digit.
abbrev pub nibble_of : ℕ → code.Option ℕ
nibble_of c = cond (is_hex_digit c) (Some (nibble c)) None

-- The bytes of pairs of digits at a buffer's front, or a character that is no digit.
abbrev pub Reads : List ℕ → code.Option ℕ → List ℕ → Type 0
Reads digits (Some n) request = (every is_hex_digit digits ≡ true) × (take n request ≡ unhex digits)
Reads digits None request = every is_hex_digit digits ≡ false

-- The request that a line is, at a buffer's front, and the room for its reply; or the line is none.
abbrev pub Asks : List ℕ → code.Option Asked → List ℕ → Type 0
Asks line (Some a) request = (all (line_tests line) ≡ true) × (take a.size request ≡ request_in line) × (a.room ≡ room_in line) × (a.room ≤ 4095)
Asks line None request = all (line_tests line) ≡ false

-- The answer and the buffer, as a line. (Every refusal is 13.)
abbrev pub told : Response → List ℕ → List ℕ
told (Ok (Some n)) buffer = hex (take n buffer) ++ newline
told (Ok None) buffer = ascii "-" ++ newline
told (Err r) buffer = ascii "refused 13" ++ newline

-- The text stands at the buffer's front, and the store is left as it says.
pub record Answers (t : Talked) (before : List ℕ) (r : ℕ) (area after : List ℕ) : Type 0 where
  pub line : Put before 0 t.text after r
  pub store : area ≡ t.store

-- What a line of the input gets; in a buffer that is too short for some line, nothing is done.
pub record Wrote (l asked before : List ℕ) (r : code.Option ℕ) (area after : List ℕ) : Type 0 where
  pub answer : r ≡ cond (leb 8191 (length before)) (Some (length (talk l asked).text)) None
  pub store : area ≡ cond (leb 8191 (length before)) (talk l asked).store l
  pub line : after ≡ cond (leb 8191 (length before)) ((talk l asked).text ++ drop (length (talk l asked).text) before) before
