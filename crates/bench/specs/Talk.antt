-- The talk with `udsbench`: each line is a request, and each gets exactly one line.
use Rattle.std.specs.Prelude.{ℕ, suc, ◌+◌, ◌-◌, ◌*◌, ◌%◌, Bool, true, cond, ◌||◌, List, [], ◌∷◌, ◌++◌, leb, eqb, length, get_or, take, drop, replicate}
use Rattle.rules.specs.Bytes.{every}
use Rattle.rules.specs.Lines.{ascii, hex, decimal, spaced}
use Rattle.rules.specs.Logs.{all}
use Rattle.rules.specs.Refusals.{between}
use Rattle.bench.specs.Stores.{store_ok}
use Rattle.bench.specs.Responder.{Response, replied, silent, refused, Responded, respond}

-- "hex (either case ..)": the digits 0 to 9, a to f and A to F.
abbrev pub is_digit : ℕ → Bool
is_digit c = between 48 57 c

abbrev pub is_hex_digit : ℕ → Bool
is_hex_digit c = is_digit c || between 97 102 c || between 65 70 c

abbrev pub nibble : ℕ → ℕ
nibble c = cond (is_digit c) (c - 48) (cond (between 97 102 c) (c - 87) (c - 55))

-- The bytes of pairs of digits.
abbrev pub unhex : List ℕ → List ℕ
unhex [] = []
unhex (a ∷ []) = []
unhex (a ∷ b ∷ cs) = (nibble a * 16 + nibble b) ∷ unhex cs

-- The number of decimal digits, read on from v.
abbrev pub number_from : ℕ → List ℕ → ℕ
number_from v [] = v
number_from v (c ∷ cs) = number_from (v * 10 + (c - 48)) cs

-- "A CR before the LF belongs to the line's end."
abbrev pub unended : List ℕ → List ℕ
unended line = cond (eqb (get_or line (length line - 1) 0) 13) (take (length line - 1) line) line

-- Where the first space stands, behind all where there is none.
abbrev pub space_at : List ℕ → ℕ
space_at [] = 0
space_at (c ∷ cs) = cond (eqb c 32) 0 (suc (space_at cs))

-- "the request in hex .., then perhaps one space and a decimal number"
abbrev pub digits : List ℕ → List ℕ
digits line = take (space_at line) line

abbrev pub number : List ℕ → List ℕ
number line = drop (space_at line + 1) line

abbrev pub numbered : List ℕ → Bool
numbered line = leb (space_at line + 1) (length line)

-- "perhaps none: the empty request"; "a request over 4,095 bytes" is none. "a decimal number of 1 to 4 digits up to 4095"
abbrev pub line_tests : List ℕ → List Bool
line_tests line =
    eqb (length (digits line) % 2) 0 ∷
    leb (length (digits line)) 8190 ∷
    every is_hex_digit (digits line) ∷
    cond (numbered line) (all (between 1 4 (length (number line)) ∷ every is_digit (number line) ∷ leb (number_from 0 (number line)) 4095 ∷ [])) true ∷ []

abbrev pub request_in : List ℕ → List ℕ
request_in line = unhex (digits line)

-- "the length of the reply buffer for this request, 4095 where absent"
abbrev pub room_in : List ℕ → ℕ
room_in line = cond (numbered line) (number_from 0 (number line)) 4095

-- "the reply in hex; `-` for silence; `refused 13`"
abbrev pub shown : Response → List ℕ
shown (replied r) = hex r
shown silent = ascii "-"
shown (refused n) = ascii "refused" ++ spaced (decimal n)

abbrev pub newline : List ℕ
newline = 10 ∷ []

-- The line that is written, and the store afterwards.
pub record Talked : Type 0 where
  pub text : List ℕ
  pub store : List ℕ

abbrev pub talked : List ℕ → List ℕ → Talked
talked text l = record { text = text; store = l }

abbrev pub answered : Responded → Talked
answered x = talked (shown x.response ++ newline) x.store

-- "Any other line, or a request over 4,095 bytes, prints `badrequest` and changes nothing."
abbrev pub to_line : List ℕ → List ℕ → Talked
to_line l line =
    cond (all (line_tests line)) (answered (respond l (request_in line) (replicate (room_in line) 0))) (talked (ascii "badrequest" ++ newline) l)

-- What a line of the input gets; its LF is no part of it.
unfoldable pub talk : List ℕ → List ℕ → Talked
talk l line = to_line l (unended line)

-- "Writes last until the program ends".
unfoldable pub answers : List ℕ → List (List ℕ) → List ℕ
answers l [] = []
answers l (line ∷ lines) = let t = talk l line in t.text ++ answers t.store lines

-- The lines of an input. "The last line may lack its LF."
abbrev pub onto_first : ℕ → List (List ℕ) → List (List ℕ)
onto_first c [] = (c ∷ []) ∷ []
onto_first c (line ∷ lines) = (c ∷ line) ∷ lines

abbrev pub lines_of : List ℕ → List (List ℕ)
lines_of [] = []
lines_of (c ∷ cs) = cond (eqb c 10) ([] ∷ lines_of cs) (onto_first c (lines_of cs))

-- All that `udsbench` writes. "Any other layout prints the one line `badstore` and nothing else."
unfoldable pub output : List ℕ → List ℕ → List ℕ
output l input = cond (store_ok l) (answers l (lines_of input)) (ascii "badstore" ++ newline)
