-- What stands afterwards. "the record's bytes become the request's, exactly where 6E id is written"; "Stored records .. keep their length"; refused: "nothing written, the store unchanged".
use Rattle.std.specs.Prelude.{ℕ, ◌+◌, ◌≤◌, true, ◌≡◌, ◌≢◌, ◌⊎◌, List, [], ◌∷◌, ◌++◌, length, get_or, drop}
use Rattle.rules.specs.Bytes.{value, two, u16_at, every, is_byte}
use Rattle.rules.specs.Faults.{select}
use Rattle.rules.specs.Calls.{read_identifier, write_identifier}
use Rattle.rules.specs.Settings.{Setting}
use Rattle.bench.specs.Promise.{sends, decides, responds, Roomy}
use Rattle.bench.specs.Responder.{grants, decision, place, replied, refused, Responded, respond}
use Rattle.bench.specs.Stores.{Slot, Store, store_of, slot_of, record_of, counted, SoundStore, put}

-- The same store with these bytes in place of a record.
abbrev pub written : Store → Slot → List ℕ → Store
written s e bs = record {
  mask = s.mask;
  format = s.format;
  session = s.session;
  power_down = s.power_down;
  first = s.first;
  slots = s.slots;
  records = put s.records e.offset bs;
  memory = s.memory;
  faults = s.faults;
}

-- The positive of a write.
abbrev pub wrote : List ℕ → List ℕ
wrote q = 0x6e ∷ get_or q 1 0 ∷ get_or q 2 0 ∷ []

-- Two records that share no byte.
abbrev pub Apart : Slot → Slot → Type 0
Apart e f = (e.offset + e.size ≤ f.offset) ⊎ (f.offset + f.size ≤ e.offset)

pub record Lasting : Type 0 where
  -- Where 6E id is answered, the request's bytes stand in the record's place; of a sound store nothing else changes, and it stays sound.
  pub writes : (l q room : List ℕ) → (respond l q room).response ≡ replied (wrote q) → (respond l q room).store ≡ put l (place l q) (drop 3 q)
  pub writes-record : (l q room : List ℕ) → SoundStore l → (respond l q room).response ≡ replied (wrote q)
      → store_of (respond l q room).store ≡ written (store_of l) (slot_of (store_of l) (u16_at q 1)) (drop 3 q)
  pub stays-sound : (l q room : List ℕ) → SoundStore l → every is_byte q ≡ true → SoundStore (respond l q room).store
  -- Everywhere else the store is as it was.
  pub keeps : (l q room : List ℕ) → (respond l q room).response ≢ replied (wrote q) → (respond l q room).store ≡ l
  pub refused-keeps : (l q room : List ℕ) (n : ℕ) → (respond l q room).response ≡ refused n
      → (n ≡ 13) × ((respond l q room).buffer ≡ room) × ((respond l q room).store ≡ l)
  -- Neither the buffer nor the store grows or shrinks.
  pub as_long : (l q room : List ℕ) → (length (respond l q room).buffer ≡ length room) × (length (respond l q room).store ≡ length l)
  -- What was written is read; a record that shares no byte with it reads as before.
  pub read_back : (l room : List ℕ) (h n : ℕ) (d : List ℕ) → let q : List ℕ = 0x2e ∷ h ∷ n ∷ d in
      SoundStore l → (respond l q room).response ≡ replied (wrote q) → length d ≤ 4092
      → decision (store_of (respond l q room).store) (0x22 ∷ h ∷ n ∷ []) ≡ grants (0x62 ∷ h ∷ n ∷ []) d
  -- So a write that the client was granted, and then its read: the new bytes.
  pub client-reads : (w : Setting) (id : ℕ) (d l room head e : List ℕ) → SoundStore l → decides w (write_identifier id d) l ≡ grants head e
      → Roomy (responds w (write_identifier id d) l room) → length d ≤ 4092
      → decides w (read_identifier id) (respond l (sends w (write_identifier id d)) room).store ≡ grants (0x62 ∷ two id) d
  pub others : (l q room : List ℕ) (id : ℕ) → SoundStore l → (respond l q room).response ≡ replied (wrote q) →
      let s = store_of l in
      Apart (slot_of s (u16_at q 1)) (slot_of s id) → record_of (store_of (respond l q room).store) (slot_of s id) ≡ record_of s (slot_of s id)
  -- The count is the selector's, and its two bytes say it.
  pub counts : (l : List ℕ) (mask : ℕ) → SoundStore l → value (two (counted (store_of l) mask)) ≡ length (select mask (store_of l).faults)
  pub many : (s : Store) (mask : ℕ) → 65535 ≤ length (select mask s.faults) → two (counted s mask) ≡ 0xff ∷ 0xff ∷ []
