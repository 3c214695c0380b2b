-- A word that names an identifier: "three digits up to 7FF for 11 bits, eight up to 1FFFFFFF for 29 bits", and nothing else.
use Rattle.std.specs.Prelude as code
use Rattle.std.specs.Prelude.{Some, None}
use Rattle.std.specs.Prelude.{ℕ, Bool, cond, ◌&&◌, ◌||◌, List, [], ◌∷◌, map, ◌≡◌, leb, eqb, length}
use Prim.Native.String.{String}
use Rattle.rules.specs.Bytes.{every}
use Rattle.rules.specs.Lines.{ascii}
use Rattle.candump.specs.Text.{Hex, is, number}
use Rattle.candump.specs.Lines.{identifier}

-- How many digits, and their number.
abbrev pub names : ℕ → ℕ → Bool
names n v = (eqb n 3 && leb v 0x7ff) || (eqb n 8 && leb v 0x1fffffff)

-- Every byte of the word is a hex digit: no space stands before them or behind them.
unfoldable pub identifier_in : List ℕ → code.Option ℕ
identifier_in word =
    let n = length word in
    let v = number 16 0 word in
    cond (every (is Hex) word && names n v) (Some (identifier n v)) None

-- Rows of words.
pub record Row : Type 0 where
  pub word : List ℕ
  pub names : code.Option ℕ

abbrev pub row : String → code.Option ℕ → Row
row w n = record { word = ascii w; names = n }

unfoldable pub rows : List Row
rows =
    row "7E0" (Some 0x7e0) ∷
    row "7ff" (Some 0x7ff) ∷
    row "000" (Some 0) ∷
    row "000007E0" (Some 0x800007e0) ∷
    row "18daF110" (Some 0x98daf110) ∷
    row "1FFFFFFF" (Some 0x9fffffff) ∷
    row "  7E0" None ∷
    row " 7E0" None ∷
    row "     7E0" None ∷
    row "7E0 " None ∷
    row "7E0#" None ∷
    row "0x7E0" None ∷
    row "+7E" None ∷
    row "800" None ∷
    row "20000000" None ∷
    row "7E" None ∷
    row "07E0" None ∷
    row "0000007E0" None ∷
    row "" None ∷
    []

abbrev pub Rows : Type 0
Rows = map (λ (x : Row). identifier_in x.word) rows ≡ map (λ (x : Row). x.names) rows
