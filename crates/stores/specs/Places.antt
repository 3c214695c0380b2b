-- Where things stand in a store's one area of bytes.
use Rattle.std.specs.Prelude as code
use Rattle.std.specs.Prelude.{Some, None}
use Rattle.std.specs.Prelude.{ℕ, ◌+◌, ◌-◌, ◌*◌, Bool, cond, ◌&&◌, List, leb, eqb, length, get_or}
use Rattle.rules.specs.Bytes.{u16_at}
use Rattle.bench.specs.Stores as bench
use Rattle.bench.specs.Stores.{slot, store_of, records_at, slot_of, known, inside}
use Rattle.stores.specs.declared.Slot.{Slot}
use Rattle.stores.specs.declared.Place.{Place}

abbrev pub said : Slot → bench.Slot
said s = slot s.id s.offset s.size

-- The identifier numbered i, from 0.
abbrev pub slot_in : List ℕ → ℕ → bench.Slot
slot_in l i = let at = u16_at l 20 + i * 6 in slot (u16_at l at) (u16_at l (at + 2)) (u16_at l (at + 4))

-- So many bytes from an index on.
abbrev pub span : ℕ → ℕ → Place
span at size = record { at = at; size = size }

-- Of the slot that was found: where its record begins, and its length.
abbrev pub placed : List ℕ → bench.Slot → code.Option Place
placed l e = cond (known (store_of l) e) (Some (span (records_at l + e.offset) e.size)) None

unfoldable pub record_in : List ℕ → ℕ → code.Option Place
record_in l id = placed l (slot_of (store_of l) id)

-- No memory of a store is longer than 65,535 bytes.
abbrev pub near_of : ℕ → code.Option ℕ
near_of n = cond (leb n 65535) (Some n) None

unfoldable pub offset_of : ℕ → ℕ → code.Option ℕ
offset_of address first = cond (leb first address) (near_of (address - first)) None

-- The memory from an address on, where it lies inside and is not empty.
unfoldable pub held_in : List ℕ → ℕ → ℕ → code.Option Place
held_in l address size = cond (leb 1 size && inside (store_of l) address size) (Some (span (u16_at l 28 + (address - (store_of l).first)) size)) None

-- Of `store_tests` those of the header, and those of where the areas stand.
abbrev pub header_ok : List ℕ → Bool
header_ok l = leb 36 (length l) && eqb (u16_at l 0) 1 && eqb (get_or l 9 0) 0 && eqb (u16_at l 20) 36

abbrev pub gapless : List ℕ → Bool
gapless l =
    eqb (records_at l) (36 + u16_at l 18 * 6) &&
    eqb (u16_at l 28) (records_at l + u16_at l 22) &&
    eqb (u16_at l 32) (u16_at l 28 + u16_at l 26) &&
    eqb (u16_at l 34) (u16_at l 32 + u16_at l 30 * 4) &&
    eqb (u16_at l 34) (length l)
