-- Text in a lent buffer.
use Rattle.std.specs.Prelude as code
use Rattle.std.specs.Prelude.{Some, None}
use Rattle.std.specs.Prelude.{ℕ, zero, suc, ◌+◌, ◌*◌, ◌≤◌, cond, List, [], ◌∷◌, ◌++◌, ◌≡◌, leb, length, take, drop}
use Rattle.rules.specs.Lines.{decimal, hex, hex_or_dash, spaced}

-- The bytes bs put into l from index at on.
unfoldable pub put : List ℕ → ℕ → List ℕ → List ℕ
put l at bs = take at l ++ bs ++ drop (at + length bs) l

-- A writer's answer is where the next one goes on.
pub record Put (before : List ℕ) (at : ℕ) (bs after : List ℕ) (r : ℕ) : Type 0 where
  pub next : r ≡ at + length bs
  pub line : after ≡ put before at bs

-- "outcome, finishing time, events read, notices, detail" and a newline; the detail in bytes.
unfoldable pub text : List ℕ → ℕ → ℕ → ℕ → List ℕ → List ℕ
text word time events notices detail =
    word ++
    spaced (decimal time) ++
    spaced (decimal events) ++
    spaced (decimal notices) ++
    spaced (hex_or_dash detail) ++
    (10 ∷ [])

-- How many characters so many bytes of detail take: a dash, or two each.
abbrev pub shown : ℕ → ℕ
shown zero = 1
shown (suc n) = suc n * 2

-- The text's length, by the lengths of its parts; 5 are the spaces and the newline.
abbrev pub room : ℕ → ℕ → ℕ → ℕ → ℕ → ℕ
room word time events notices detail =
    word + (length (decimal time) + length (decimal events) + length (decimal notices) + 5) + shown detail

-- The text stands at the buffer's front and the rest keeps its bytes; where there is no room, all of it does.
pub record Wrote (bs before : List ℕ) (r : code.Option ℕ) (after : List ℕ) : Type 0 where
  pub answer : r ≡ cond (leb (length bs) (length before)) (Some (length bs)) None
  pub line : after ≡ cond (leb (length bs) (length before)) (bs ++ drop (length bs) before) before

-- A word, and a number behind a space.
abbrev pub counted : List ℕ → ℕ → List ℕ
counted word n = word ++ spaced (decimal n)

-- Bytes in hex behind a space; nothing where there are none.
abbrev pub hex_behind : List ℕ → List ℕ
hex_behind [] = []
hex_behind (b ∷ bs) = spaced (hex (b ∷ bs))

-- How many characters that takes.
abbrev pub behind : ℕ → ℕ
behind zero = 0
behind (suc n) = suc n * 2 + 1

-- A line: a word, a number, and bytes.
unfoldable pub item : List ℕ → ℕ → List ℕ → List ℕ
item word n bs = counted word n ++ hex_behind bs ++ (10 ∷ [])

-- The text stands from index at on, and the answer is where it ends; where there is no room, nothing changes.
pub record Appended (bs before : List ℕ) (at r : ℕ) (after : List ℕ) : Type 0 where
  pub end : r ≡ cond (leb (at + length bs) (length before)) (at + length bs) at
  pub line : after ≡ cond (leb (at + length bs) (length before)) (put before at bs) before

-- The same where there is room for it, and nothing said where there is none: a text of many pieces asks for its room once.
pub record Adds (bs before : List ℕ) (at r : ℕ) (after : List ℕ) : Type 0 where
  pub put : at + length bs ≤ length before → Put before at bs after r
