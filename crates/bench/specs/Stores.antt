-- The store of the bench responder as one area of bytes: "identifiers with lent records, one memory area, a fault list with mask and format, four session bytes, a power-down byte".
use Rattle.std.specs.Prelude.{ℕ, zero, suc, ◌+◌, ◌-◌, ◌*◌, min, Bool, true, cond, ◌&&◌, ◌≡◌, List, [], ◌∷◌, ◌++◌, leb, eqb, length, get_or, take, drop}
use Rattle.rules.specs.Bytes.{u16_at, u32_at, every, is_byte}
use Rattle.rules.specs.Faults.{select}
use Rattle.rules.specs.Logs.{all, area}

-- "Identifier, 6 bytes: identifier u16, offset into the record bytes u16, length u16."
pub record Slot : Type 0 where
  pub id : ℕ
  pub offset : ℕ
  pub size : ℕ

abbrev pub slot : ℕ → ℕ → ℕ → Slot
slot id offset size = record { id = id; offset = offset; size = size }

-- n of them, from index i on.
unfoldable pub slots_from : List ℕ → ℕ → ℕ → List Slot
slots_from l zero i = []
slots_from l (suc n) i = slot (u16_at l i) (u16_at l (i + 2)) (u16_at l (i + 4)) ∷ slots_from l n (i + 6)

-- What a store says. Faults are three code bytes and a status each.
pub record Store : Type 0 where
  pub mask : ℕ
  pub format : ℕ
  pub session : List ℕ
  pub power_down : ℕ
  pub first : ℕ
  pub slots : List Slot
  pub records : List ℕ
  pub memory : List ℕ
  pub faults : List ℕ

-- Where the record bytes begin.
abbrev pub records_at : List ℕ → ℕ
records_at l = u16_at l 24

-- "Store, big-endian. Header, 36 bytes", field by field; of an area how many (bytes, identifiers or faults), and where it begins. Any bytes say something.
unfoldable pub store_of : List ℕ → Store
store_of l = record {
  mask = get_or l 2 0;
  format = get_or l 3 0;
  session = area l 4 4;
  power_down = get_or l 8 0;
  first = u32_at l 10 * 4294967296 + u32_at l 14;
  slots = slots_from l (u16_at l 18) (u16_at l 20);
  records = area l (records_at l) (u16_at l 22);
  memory = area l (u16_at l 28) (u16_at l 26);
  faults = area l (u16_at l 32) (u16_at l 30 * 4);
}

-- "the same identifier may stand twice (the first counts)"; one that stands nowhere has an empty record.
abbrev pub find : List Slot → ℕ → Slot
find [] id = slot id 0 0
find (e ∷ es) id = cond (eqb e.id id) e (find es id)

abbrev pub slot_of : Store → ℕ → Slot
slot_of s id = find s.slots id

-- "an identifier whose first entry is empty, or lies outside the lent bytes, is unknown"
abbrev pub known : Store → Slot → Bool
known s e = leb 1 e.size && leb (e.offset + e.size) (length s.records)

abbrev pub record_of : Store → Slot → List ℕ
record_of s e = area s.records e.offset e.size

-- "Inside means first ≤ address and address + size ≤ first + length, in natural numbers"
abbrev pub inside : Store → ℕ → ℕ → Bool
inside s address size = leb s.first address && leb (address + size) (s.first + length s.memory)

abbrev pub memory_at : Store → ℕ → ℕ → List ℕ
memory_at s address size = area s.memory (address - s.first) size

-- "Call 9 counts by One's selector"; two bytes say 65,535 at most.
abbrev pub counted : Store → ℕ → ℕ
counted s mask = min 65535 (length (select mask s.faults))

-- "The areas follow in that order, no gaps." "A record has at least one byte and lies inside the record bytes". "Any other layout prints the one line `badstore`".
abbrev pub store_tests : List ℕ → List Bool
store_tests l =
    leb 36 (length l) ∷
    eqb (u16_at l 0) 1 ∷
    eqb (get_or l 9 0) 0 ∷
    eqb (u16_at l 20) 36 ∷
    eqb (records_at l) (36 + u16_at l 18 * 6) ∷
    eqb (u16_at l 28) (records_at l + u16_at l 22) ∷
    eqb (u16_at l 32) (u16_at l 28 + u16_at l 26) ∷
    eqb (u16_at l 34) (u16_at l 32 + u16_at l 30 * 4) ∷
    eqb (u16_at l 34) (length l) ∷
    every (known (store_of l)) (store_of l).slots ∷ []

unfoldable pub store_ok : List ℕ → Bool
store_ok l = all (store_tests l)

-- A sound store: bytes in this layout.
pub record SoundStore (l : List ℕ) : Type 0 where
  pub bytes : every is_byte l ≡ true
  pub laid : store_ok l ≡ true

-- The bytes bs put into l from index i on.
abbrev pub put : List ℕ → ℕ → List ℕ → List ℕ
put l i bs = take i l ++ bs ++ drop (i + length bs) l
