-- A book's bytes: "a header of counts and offsets, a directory entry per log, then the logs". A book is written of its logs, and they are read from it.
use Rattle.std.specs.Prelude.{ℕ, zero, suc, ◌+◌, ◌*◌, List, [], ◌∷◌, ◌++◌, length, get_or, take, drop}
use Rattle.rules.specs.Bytes.{u16_at, two, four}

abbrev pub header_size : ℕ
header_size = 20

abbrev pub entry_size : ℕ
entry_size = 8

-- The call that a log is of.
abbrev pub call_byte : List ℕ → ℕ
call_byte log = get_or log 2 0

-- "The logs follow end to end in the directory's order, no gaps, no alignment"
abbrev pub joined : List (List ℕ) → List ℕ
joined [] = []
joined (l ∷ ls) = l ++ joined ls

-- "Directory entry, 8 bytes: call u8, 0, length u16, offset u32 from the book's first byte", of a log at index `at`.
abbrev pub entry : ℕ → List ℕ → List ℕ
entry at l = call_byte l ∷ 0 ∷ two (length l) ++ four at

-- The entries of logs that follow each other from index `at` on.
abbrev pub directory : ℕ → List (List ℕ) → List ℕ
directory at [] = []
directory at (l ∷ ls) = entry at l ++ directory (at + length l) ls

-- Where the logs begin: "20 + 8 × count".
abbrev pub start : ℕ → ℕ
start count = header_size + count * entry_size

-- "`UB`, 5542; version u16 = 1; directory: count u16, offset u16 = 20; logs: bytes u32, offset u32 = 20 + 8 × count; total length u32", of so many logs
-- and bytes of logs.
abbrev pub header : ℕ → ℕ → List ℕ
header count bytes =
    0x55 ∷ 0x42 ∷ 0 ∷ 1 ∷ two count ++ (0 ∷ header_size ∷ four bytes ++ (four (start count) ++ four (start count + bytes)))

abbrev pub book_of : List (List ℕ) → List ℕ
book_of ls = header (length ls) (length (joined ls)) ++ (directory (start (length ls)) ls ++ joined ls)

-- So many logs, by the lengths in the directory d, of the bytes rest.
abbrev pub logs_from : List ℕ → ℕ → List ℕ → List (List ℕ)
logs_from d zero rest = []
logs_from d (suc n) rest = take (u16_at d 2) rest ∷ logs_from (drop entry_size d) n (drop (u16_at d 2) rest)

-- The logs that bytes say, whether they are a book or not.
abbrev pub logs_in : List ℕ → List (List ℕ)
logs_in b = logs_from (drop header_size b) (u16_at b 4) (drop (start (u16_at b 4)) b)
