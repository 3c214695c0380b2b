-- Document 02, request Five, the server end: "it takes a request and a small store .. and writes a reply, or stays silent under suppression."
use Rattle.std.specs.Prelude.{ℕ, ◌+◌, ◌/◌, ◌%◌, Bool, true, false, cond, List, [], ◌∷◌, ◌++◌, leb, eqb, length, get_or, drop}
use Rattle.rules.specs.Bytes.{value, u16_at, two}
use Rattle.rules.specs.InOrder.{Check, unless, judge}
use Rattle.rules.specs.Logs.{all, area}
use Rattle.rules.specs.Refusals.{between}
use Rattle.bench.specs.Stores.{Slot, Store, store_of, records_at, slot_of, known, record_of, inside, memory_at, counted, put}

-- What a service asks of a request, test by test, and its positive as the bytes before the data and the data. `hushed`: bit 7 of its sub-function is set.
pub record Row : Type 0 where
  pub served : Bool
  pub least : ℕ
  pub sub : Bool
  pub exact : Bool
  pub range : Bool
  pub head : List ℕ
  pub payload : List ℕ
  pub hushed : Bool

-- A service with a sub-function b: "minimum length (2 with a sub-function ..)".
abbrev pub functional : ℕ → Bool → Bool → List ℕ → List ℕ → Row
functional b sub exact head d = record { served = true; least = 2; sub = sub; exact = exact; range = true; head = head; payload = d; hushed = leb 128 b }

-- One without: "3 for 22, else 4".
abbrev pub simple : ℕ → Bool → Bool → List ℕ → List ℕ → Row
simple least exact range head d = record { served = true; least = least; sub = true; exact = exact; range = range; head = head; payload = d; hushed = false }

abbrev pub unserved : Row
unserved = record { served = false; least = 0; sub = true; exact = true; range = true; head = []; payload = []; hushed = false }

-- 23 f addr size: `a` and `z` are the lengths of address and size. "unknown .. ranges, a zero nibble in f or a memory size of 0 31"
abbrev pub memory_row : Store → ℕ → ℕ → ℕ → ℕ → ℕ → Row
memory_row s n a z address size =
    simple 4 (eqb n (2 + a + z)) (all (leb 1 a ∷ leb 1 z ∷ leb 1 size ∷ inside s address size ∷ [])) (0x63 ∷ []) (memory_at s address size)

-- The services by the first byte, their positives as the standard has them. b is the second byte, n the request's length, e the slot of the identifier in bytes 1 and 2.
-- "sub-functions 12 unless 01 to 04 for 10 and 11, 00 for 3E, 01 for 19"
abbrev pub row_by : Store → List ℕ → ℕ → ℕ → ℕ → Slot → Row
row_by s q sid b n e =
    cond (eqb sid 0x10) (functional b (between 1 4 (b % 128)) (eqb n 2) (0x50 ∷ b % 128 ∷ []) s.session)
    (cond (eqb sid 0x11) (functional b (between 1 4 (b % 128)) (eqb n 2) (0x51 ∷ b % 128 ∷ []) (cond (eqb (b % 128) 4) (s.power_down ∷ []) []))
    (cond (eqb sid 0x3e) (functional b (eqb (b % 128) 0) (eqb n 2) (0x7e ∷ 0x00 ∷ []) [])
    (cond (eqb sid 0x19) (functional b (eqb (b % 128) 1) (eqb n 3) (0x59 ∷ 0x01 ∷ []) (s.mask ∷ s.format ∷ two (counted s (get_or q 2 0))))
    (cond (eqb sid 0x22) (simple 3 (eqb n 3) (known s e) (0x62 ∷ b ∷ get_or q 2 0 ∷ []) (record_of s e))
    (cond (eqb sid 0x2e) (simple 4 (cond (known s e) (eqb n (3 + e.size)) true) (known s e) (0x6e ∷ b ∷ get_or q 2 0 ∷ []) [])
    (cond (eqb sid 0x23) (memory_row s n (b % 16) (b / 16) (value (area q 2 (b % 16))) (value (area q (2 + b % 16) (b / 16))))
    unserved))))))

abbrev pub row_of : Store → List ℕ → Row
row_of s q = row_by s q (get_or q 0 0) (get_or q 1 0) (length q) (slot_of s (u16_at q 1))

-- "Checks in order: service, minimum length .., sub-function, exact length .., range, reply length": "other services get code 11, wrong lengths 13,
-- unknown identifiers, ranges .. 31, sub-functions 12 .., replies over 4,095 bytes 14."
abbrev pub checks : Row → ℕ → List (Check ℕ)
checks r n =
    unless r.served 0x11 ∷
    unless (leb r.least n) 0x13 ∷
    unless r.sub 0x12 ∷
    unless r.exact 0x13 ∷
    unless r.range 0x31 ∷
    unless (leb (length (r.head ++ r.payload)) 4095) 0x14 ∷ []

pub data Decision : Type 0 where
  refuses : ℕ → Decision
  grants : List ℕ → List ℕ → Decision
  keeps_silent : Decision

-- "stays silent under suppression"; "A negative is sent under suppression too."
abbrev pub judged : Row → ℕ → Decision
judged r n = judge refuses (checks r n) (cond r.hushed keeps_silent (grants r.head r.payload))

-- "An empty request gets no reply."
unfoldable pub decision : Store → List ℕ → Decision
decision s [] = keeps_silent
decision s (sid ∷ bs) = judged (row_of s (sid ∷ bs)) (length (sid ∷ bs))

-- The reply's bytes, none where there is no reply.
abbrev pub reply_to : List ℕ → Decision → List ℕ
reply_to q (refuses code) = 0x7f ∷ get_or q 0 0 ∷ code ∷ []
reply_to q (grants head d) = head ++ d
reply_to q keeps_silent = []

-- "the record's bytes become the request's, exactly where 6E id is written": where they stand in the store.
abbrev pub place : List ℕ → List ℕ → ℕ
place l q = records_at l + (slot_of (store_of l) (u16_at q 1)).offset

abbrev pub stored : List ℕ → List ℕ → Decision → List ℕ
stored l q (refuses code) = l
stored l q (grants head d) = cond (eqb (get_or q 0 0) 0x2e) (put l (place l q) (drop 3 q)) l
stored l q keeps_silent = l

pub data Response : Type 0 where
  replied : List ℕ → Response
  silent : Response
  refused : ℕ → Response

abbrev pub response_to : List ℕ → Decision → Response
response_to q (refuses code) = replied (reply_to q (refuses code))
response_to q (grants head d) = replied (reply_to q (grants head d))
response_to q keeps_silent = silent

-- The response, and what stands afterwards in the reply buffer and in the store.
pub record Responded : Type 0 where
  pub response : Response
  pub buffer : List ℕ
  pub store : List ℕ

abbrev pub responded : Response → List ℕ → List ℕ → Responded
responded r buffer l = record { response = r; buffer = buffer; store = l }

-- "a reply buffer shorter than the reply is refused with 13, nothing written, the store unchanged."
abbrev pub answering : List ℕ → List ℕ → List ℕ → Decision → Responded
answering l q buffer x =
    let r = reply_to q x in
    judge (λ n. responded (refused n) buffer l) (unless (leb (length r) (length buffer)) 13 ∷ [])
    (responded (response_to q x) (r ++ drop (length r) buffer) (stored l q x))

unfoldable pub respond : List ℕ → List ℕ → List ℕ → Responded
respond l q buffer = answering l q buffer (decision (store_of l) q)
