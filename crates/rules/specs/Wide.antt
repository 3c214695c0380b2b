-- Document 02, request Three: what the wide setting of an `alfid` form changes, as theorems and rows.
use Rattle.std.specs.Prelude.{ℕ, ◌-◌, ◌^◌, ◌≤◌, ◌<◌, Bool, true, false, ◌≡◌, List, [], ◌∷◌, ◌++◌, ltb, length, replicate}
use Rattle.rules.specs.Answers.{timeout}
use Rattle.rules.specs.Bytes.{value, bytes_of}
use Rattle.rules.specs.Calls.{Call, read_memory, write_memory, download, upload, Field, alfid, sent}
use Rattle.rules.specs.Client.{call}
use Rattle.rules.specs.Examples.{Example, row, whole, usual, gives}
use Rattle.rules.specs.InOrder.{Check, unless}
use Rattle.rules.specs.Pins.{Hold}
use Rattle.rules.specs.Readings.{turned}
use Rattle.rules.specs.Refusals.{between, width}
use Rattle.rules.specs.Settings.{Setting, Lent}

-- Document 01, 6: "a width outside 1..8"; 7: "the value needs more bytes than its width"
abbrev pub narrow : ℕ → ℕ → List (Check ℕ)
narrow v w = unless (between 1 8 w) 6 ∷ unless (ltb v (256 ^ w)) 7 ∷ []

-- "Calls 5, 6, 11 and 12 have an `alfid` form".
pub data MemoryCall : Type 0 where
  reads : MemoryCall
  writes : List ℕ → MemoryCall
  downloads : ℕ → ℕ → MemoryCall
  uploads : ℕ → ℕ → MemoryCall

abbrev pub asks : MemoryCall → Field → Field → Call
asks reads a s = read_memory a s
asks (writes d) a s = write_memory a s d
asks (downloads c e) a s = download c e a s
asks (uploads c e) a s = upload c e a s

-- Off is document 01's definition, word for word. On, the widths that it takes are answered as with the setting off: the setting only
-- turns some refusals 6 into requests. On and off, what is sent has the width's bytes and reads back as the value; above eight bytes a
-- number of 64 bits is padded with zeros on the left.
pub record Wide : Type 0 where
  pub off : (v w : ℕ) → width (alfid v w false) ≡ narrow v w
  pub as-off : (strict : Bool) (x : Setting) (f : MemoryCall) (v w u w' : ℕ) (l : Lent) → between 1 8 w ≡ true → between 1 8 w' ≡ true
      → call strict x (asks f (alfid v w true) (alfid u w' true)) l ≡ call strict x (asks f (alfid v w false) (alfid u w' false)) l
  pub long : (v w : ℕ) (wide : Bool) → length (sent (alfid v w wide)) ≡ w
  pub back : (v w : ℕ) (wide : Bool) → v < 256 ^ w → value (sent (alfid v w wide)) ≡ v
  pub padded : (v w : ℕ) → v < 2 ^ 64 → 8 ≤ w → sent (alfid v w true) ≡ replicate (w - 8) 0 ++ bytes_of 8 v

-- Widths under the setting: 1 and 15 are taken, 0 and 16 are not; each field by its own setting; "7 and the order stay".
abbrev pub widths : MemoryCall → List Example
widths f =
    row true usual (asks f (alfid 255 1 true) (alfid 18446744073709551615 15 true)) [] (gives timeout 50 0 0 0) ∷
    row true usual (asks f (alfid 1 15 true) (alfid 255 1 true)) [] (gives timeout 50 0 0 0) ∷
    row true usual (asks f (alfid 1 9 true) (alfid 255 1 false)) [] (gives timeout 50 0 0 0) ∷
    turned (asks f (alfid 1 9 true) (alfid 1 9 false)) 6 ∷
    turned (asks f (alfid 1 9 false) (alfid 1 9 true)) 6 ∷
    turned (asks f (alfid 1 0 true) (alfid 256 1 true)) 6 ∷
    turned (asks f (alfid 1 16 true) (alfid 256 1 true)) 6 ∷
    turned (asks f (alfid 256 1 true) (alfid 1 16 true)) 7 ∷
    turned (asks f (alfid 1 9 true) (alfid 1 0 true)) 6 ∷
    turned (asks f (alfid 1 9 true) (alfid 1 16 true)) 6 ∷
    turned (asks f (alfid 1 9 true) (alfid 65536 2 true)) 7 ∷ []

unfoldable pub wide_rows : List Example
wide_rows =
    -- "A gateway takes addresses as one nine-byte field, a zero region byte first."
    whole true usual (read_memory (alfid 0x0102030405060708 9 true) (alfid 0x10 10 true)) ([]) (gives timeout 50 0 0 0) (50, 5000)
    (0x23 ∷ 0xa9 ∷ 0x00 ∷ 0x01 ∷ 0x02 ∷ 0x03 ∷ 0x04 ∷ 0x05 ∷ 0x06 ∷ 0x07 ∷ 0x08 ∷ replicate 9 0 ++ 0x10 ∷ []) ∷
    (widths reads ++ widths (writes (0xaa ∷ [])) ++ widths (downloads 15 0) ++ widths (uploads 0 15))

abbrev pub WideRows : Type 0
WideRows = Hold wide_rows
