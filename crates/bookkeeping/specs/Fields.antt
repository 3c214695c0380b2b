-- What is a book, field by field, as the layout says it and as code reads it.
use Rattle.std.specs.Prelude.{ℕ, zero, suc, ◌+◌, Bool, ◌&&◌, List, [], ◌∷◌, leb, eqb, length, get_or, take, drop}
use Rattle.rules.specs.Bytes.{u16_at, u32_at}
use Rattle.rules.specs.Logs.{all, layout_ok}
use Rattle.bookkeeping.specs.Layout.{header_size, entry_size, call_byte, start}
use Rattle.bookkeeping.specs.Book.{most}

-- "0: `UB`, 5542; 2: version u16 = 1; 4, 6: directory: count u16, offset u16 = 20; 8, 12: logs: bytes u32, offset u32 = 20 + 8 × count; 16: total
-- length u32, the file's length"
abbrev pub head_ok : List ℕ → Bool
head_ok b =
    all
    (leb header_size (length b) ∷
    leb (length b) most ∷
    eqb (u16_at b 0) 0x5542 ∷
    eqb (u16_at b 2) 1 ∷
    eqb (u16_at b 6) header_size ∷
    eqb (u32_at b 12) (start (u16_at b 4)) ∷
    eqb (u32_at b 16) (u32_at b 12 + u32_at b 8) ∷
    eqb (u32_at b 16) (length b) ∷ [])

-- The first entry of the directory d, whose log is the first of the bytes rest and stands at index `at`: "each one that `udslog` doesn't call bad and
-- whose call byte is the entry's".
abbrev pub entry_ok : List ℕ → ℕ → List ℕ → Bool
entry_ok d at rest =
    all
    (leb (u16_at d 2) (length rest) ∷
    eqb (get_or d 1 0) 0 ∷
    eqb (u32_at d 4) at ∷
    layout_ok (take (u16_at d 2) rest) ∷
    eqb (call_byte (take (u16_at d 2) rest)) (get_or d 0 0) ∷ [])

-- n entries of the directory d, whose logs begin at index `at` and fill the bytes rest.
abbrev pub entries_ok : List ℕ → ℕ → ℕ → List ℕ → Bool
entries_ok d zero at rest = eqb (length rest) 0
entries_ok d (suc n) at rest = entry_ok d at rest && entries_ok (drop entry_size d) n (at + u16_at d 2) (drop (u16_at d 2) rest)

abbrev pub by_fields : List ℕ → Bool
by_fields b = head_ok b && entries_ok (drop header_size b) (u16_at b 4) (u32_at b 12) (drop (start (u16_at b 4)) b)
