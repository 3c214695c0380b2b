-- Document 01, "The calls", and call 15 of document 02: the sixteen calls and the requests that they send.
use Rattle.std.specs.Prelude.{ℕ, ◌+◌, ◌*◌, ◌%◌, Bool, true, false, ◌||◌, List, [], ◌∷◌, ◌++◌, leb, eqb, length}
use Rattle.std.proofs.Math.Option.{Option, none, some}
use Rattle.std.specs.Int.Bits.{bit_or}
use Rattle.rules.specs.Bytes.{bytes_of, two}

-- An address or a size: bytes, or in an `alfid` form a number, a width and the wide setting.
pub data Field : Type 0 where
  given : List ℕ → Field
  alfid : ℕ → ℕ → Bool → Field

-- "sent high byte first"
abbrev pub sent : Field → List ℕ
sent (given bs) = bs
sent (alfid v w wide) = bytes_of w v

-- The calls 0 to 15 with their arguments. Data that may be absent is an option: absent is not empty.
pub data Call : Type 0 where
  request : ℕ → Option ℕ → Option (List ℕ) → Call
  session : ℕ → Call
  reset : ℕ → Call
  security : ℕ → Option (List ℕ) → Call
  tester_present : Call
  read_memory : Field → Field → Call
  write_memory : Field → Field → List ℕ → Call
  read_identifier : ℕ → Call
  write_identifier : ℕ → List ℕ → Call
  fault_count : ℕ → Call
  routine : ℕ → ℕ → Option (List ℕ) → Call
  download : ℕ → ℕ → Field → Field → Call
  upload : ℕ → ℕ → Field → Field → Call
  transfer : ℕ → Option (List ℕ) → Call
  transfer_exit : Option (List ℕ) → Call
  fault_list : ℕ → Call

-- "The suppressed client sets bit 7 in calls 0 (if it has a sub-function), 1, 2, 3, 4, 9, 10; in others it changes nothing." And call 15: "It has a suppressed form."
abbrev pub with_bit7 : Bool → Option ℕ → Option ℕ
with_bit7 quiet none = none
with_bit7 true (some sub) = some (sub % 128 + 128)
with_bit7 false (some sub) = some sub

-- "bit 7 of the sub-function is set"
abbrev pub suppresses : Option ℕ → Bool
suppresses none = false
suppresses (some s) = leb 128 s

-- "SID OR 40": the first byte of a positive.
abbrev pub positive_sid : ℕ → ℕ
positive_sid sid = bit_or sid 0x40

-- How many bytes stand before the data: the SID and, if there is one, the sub-function.
abbrev pub head : Option ℕ → ℕ
head none = 1
head (some s) = 2

-- "f = size length × 16 + address length"
abbrev pub format : Field → Field → ℕ
format a s = length (sent s) * 16 + length (sent a)

-- "f addr size"
abbrev pub memory : Field → Field → List ℕ
memory a s = format a s ∷ sent a ++ sent s

abbrev pub or_none : Option (List ℕ) → List ℕ
or_none none = []
or_none (some d) = d

-- A row for each call: its number, its SID, the sub-function that the caller gives or the table fixes, and the request behind them.
pub record Row : Type 0 where
  pub number : ℕ
  pub sid : ℕ
  pub sub : Option ℕ
  pub parameters : List ℕ

abbrev pub row : ℕ → ℕ → Option ℕ → List ℕ → Row
row n sid sub ps = record { number = n; sid = sid; sub = sub; parameters = ps }

-- The table's calls and requests. "m = compression × 16 + encryption."
abbrev pub table : Call → Row
table (request sid sub d) = row 0 sid sub (or_none d)
table (session sub) = row 1 0x10 (some sub) []
table (reset sub) = row 2 0x11 (some sub) []
table (security sub d) = row 3 0x27 (some sub) (or_none d)
table tester_present = row 4 0x3e (some 0) []
table (read_memory a s) = row 5 0x23 none (memory a s)
table (write_memory a s d) = row 6 0x3d none (memory a s ++ d)
table (read_identifier id) = row 7 0x22 none (two id)
table (write_identifier id d) = row 8 0x2e none (two id ++ d)
table (fault_count mask) = row 9 0x19 (some 1) (mask ∷ [])
table (routine sub id d) = row 10 0x31 (some sub) (two id ++ or_none d)
table (download c e a s) = row 11 0x34 none ((c * 16 + e) ∷ memory a s)
table (upload c e a s) = row 12 0x35 none ((c * 16 + e) ∷ memory a s)
table (transfer counter d) = row 13 0x36 none (counter ∷ or_none d)
table (transfer_exit d) = row 14 0x37 none (or_none d)
table (fault_list mask) = row 15 0x19 (some 2) (mask ∷ [])

abbrev pub numbered : Call → ℕ
numbered c = (table c).number

abbrev pub sid_of : Call → ℕ
sid_of c = (table c).sid

abbrev pub sub_of : Call → Option ℕ
sub_of c = (table c).sub

abbrev pub parameters : Call → List ℕ
parameters c = (table c).parameters

-- Calls 11 and 12.
abbrev pub loads : Call → Bool
loads c = eqb (numbered c) 11 || eqb (numbered c) 12

abbrev pub byte : Option ℕ → List ℕ
byte none = []
byte (some b) = b ∷ []

-- The request; `quiet`: it is the suppressed client's.
abbrev pub request_of : Bool → Call → List ℕ
request_of quiet c = sid_of c ∷ byte (with_bit7 quiet (sub_of c)) ++ parameters c
