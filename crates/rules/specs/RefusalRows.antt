-- Rows for refusals: each neighbouring pair in its order, for each call that has it; what is accepted just beside; the buffer's length;
-- each limit of an event list.
use Rattle.std.specs.Prelude.{ℕ, Bool, true, false, cond, ◌&&◌, ◌≡◌, List, [], ◌∷◌, ◌++◌, map, eqb, length, get_or, replicate}
use Rattle.std.proofs.Math.Option.{none, some}
use Rattle.rules.specs.Answers.{Outcome, part, positive, suppressed, negative, timeout, pending_limit, disconnected, transport, fault, refused}
use Rattle.rules.specs.Calls.{Call, request, session, reset, security, tester_present, read_memory, write_memory, read_identifier, write_identifier}
use Rattle.rules.specs.Calls.{fault_count, routine, download, upload, transfer, transfer_exit, fault_list, Field, given, alfid, numbered}
use Rattle.rules.specs.Demand1.{own, among}
use Rattle.rules.specs.Events.{plain}
use Rattle.rules.specs.Client.{call}
use Rattle.rules.specs.Examples.{Said, says, idles, raw, joined, event_bytes, entry, usual, gives, Example, whole, row}
use Rattle.rules.specs.Pins.{Hold}
use Rattle.rules.specs.Readings.{turned}
use Rattle.rules.specs.Settings.{Setting, Lent}

-- An empty field and one of two bytes for a width of one; a width outside 1..8.
abbrev pub empty : Field
empty = given []

abbrev pub big : Field
big = alfid 256 1 false

abbrev pub nine : Field
nine = alfid 0 9 false

-- "`alfid` address 6, 7, then size 6, 7", before anything else (here: refusals 2 and 3, and of calls 11 and 12 the methods of 16).
abbrev pub widths_in_order : (Field → Field → Call) → List Example
widths_in_order f =
    turned (f (alfid 1 0 false) big) 6 ∷
    turned (f nine big) 6 ∷
    turned (f big nine) 7 ∷
    turned (f big empty) 7 ∷
    turned (f empty (alfid 1 0 false)) 6 ∷
    turned (f empty nine) 6 ∷
    turned (f empty big) 7 ∷ []

-- "2; 3": 2 where both break, each at both ends; then 8 and 9.
abbrev pub lengths_in_order : (Field → Field → Call) → List Example
lengths_in_order f =
    turned (f empty empty) 2 ∷
    turned (f (given (replicate 16 0)) empty) 2 ∷
    turned (f (alfid 255 1 false) empty) 3 ∷
    turned (f (given (0x01 ∷ [])) (given (replicate 16 0))) 3 ∷
    turned (f (given (replicate 4096 0)) (given (0x01 ∷ []))) 2 ∷
    turned (f (given (0x01 ∷ [])) (given (replicate 4096 0))) 3 ∷ []

-- Accepted: widths 1 and 8, a value of all its bytes, lengths 1 and 15.
abbrev pub accepted : (Field → Field → Call) → List Example
accepted f =
    row true usual (f (alfid 255 1 false) (alfid 18446744073709551615 8 false)) [] (gives timeout 50 0 0 0) ∷
    row true usual (f (alfid 18446744073709551615 8 false) (alfid 0 1 false)) [] (gives timeout 50 0 0 0) ∷
    row true usual (f (given (replicate 15 0)) (given (0x01 ∷ []))) [] (gives timeout 50 0 0 0) ∷
    row true usual (f (given (0x01 ∷ [])) (given (replicate 15 0))) [] (gives timeout 50 0 0 0) ∷ []

-- "4; 5", before 2 and 3; 15 is accepted.
abbrev pub methods_in_order : (ℕ → ℕ → Field → Field → Call) → List Example
methods_in_order f =
    turned (f 16 16 empty empty) 4 ∷
    turned (f 15 16 empty empty) 5 ∷
    turned (f 15 15 empty empty) 2 ∷
    turned (f 16 0 (given (0x01 ∷ [])) (given (0x01 ∷ []))) 4 ∷
    turned (f 0 16 (given (0x01 ∷ [])) (given (0x01 ∷ []))) 5 ∷ []

abbrev pub write : Field → Field → Call
write a s = write_memory a s (0xaa ∷ [])

unfoldable pub in_order5 : List Example
in_order5 = widths_in_order read_memory ++ lengths_in_order read_memory ++ accepted read_memory

unfoldable pub in_order6 : List Example
in_order6 = widths_in_order write ++ lengths_in_order write ++ accepted write

unfoldable pub in_order11 : List Example
in_order11 = widths_in_order (download 16 16) ++ methods_in_order download ++ lengths_in_order (download 15 15) ++ accepted (download 15 0)

unfoldable pub in_order12 : List Example
in_order12 = widths_in_order (upload 16 16) ++ methods_in_order upload ++ lengths_in_order (upload 15 15) ++ accepted (upload 0 15)

-- A request buffer of so many bytes, a call, what is said; then the outcome. The rules for it: "1; 8; 9; 10".
pub record BufferRow : Type 0 where
  pub room : ℕ
  pub call : Call
  pub said : List Said
  pub outcome : Outcome

abbrev pub within : ℕ → Call → List Said → Outcome → BufferRow
within n c ss o = record { room = n; call = c; said = ss; outcome = o }

-- An event list of a time that falls.
abbrev pub falling : List Said
falling = idles 7 ∷ idles 6 ∷ []

abbrev pub field : Field
field = given (0x01 ∷ [])

unfoldable pub buffer_rows : List BufferRow
buffer_rows =
    within 1 (security 0x02 none) falling (refused 1) ∷
    within 2 (security 0x02 (some [])) [] timeout ∷
    within 1 (security 0x02 (some [])) falling (refused 9) ∷
    within 3 (security 0x01 (some (0x05 ∷ []))) [] timeout ∷
    within 2 (security 0x81 none) [] suppressed ∷
    within 2 (security 0x82 none) [] (refused 1) ∷
    within 4095 (transfer_exit (some (replicate 4094 0))) [] timeout ∷
    within 4094 (transfer_exit (some (replicate 4094 0))) [] (refused 9) ∷
    within 4096 (transfer_exit (some (replicate 4095 0))) falling (refused 8) ∷
    within 0 (transfer_exit (some (replicate 4095 0))) falling (refused 8) ∷
    -- 2 and 3 before 9, an exact buffer, 9 before 10, 10; for each of calls 5, 6, 11, 12.
    within 0 (read_memory empty field) falling (refused 2) ∷
    within 0 (read_memory field empty) falling (refused 3) ∷
    within 3 (read_memory field field) falling (refused 9) ∷
    within 4 (read_memory field field) [] timeout ∷
    within 4 (read_memory field field) falling (refused 10) ∷
    within 0 (write empty field) falling (refused 2) ∷
    within 0 (write field empty) falling (refused 3) ∷
    within 0 (write_memory field field (replicate 4092 0)) falling (refused 8) ∷
    within 4 (write field field) falling (refused 9) ∷
    within 5 (write field field) [] timeout ∷
    within 5 (write field field) falling (refused 10) ∷
    within 0 (download 0 0 empty field) falling (refused 2) ∷
    within 0 (download 0 0 field empty) falling (refused 3) ∷
    within 4 (download 0 0 field field) falling (refused 9) ∷
    within 5 (download 0 0 field field) [] timeout ∷
    within 5 (download 0 0 field field) falling (refused 10) ∷
    within 0 (upload 0 0 empty field) falling (refused 2) ∷
    within 0 (upload 0 0 field empty) falling (refused 3) ∷
    within 4 (upload 0 0 field field) falling (refused 9) ∷
    within 5 (upload 0 0 field field) [] timeout ∷
    within 5 (upload 0 0 field field) falling (refused 10) ∷
    -- The other calls have no refusal of their own, not for an even number nor for data absent or empty; their requests just fit.
    within 1 (request 0x22 none none) [] timeout ∷
    within 2 (request 0x22 (some 0x02) none) [] timeout ∷
    within 2 (session 0x02) [] timeout ∷
    within 2 (reset 0x02) [] timeout ∷
    within 2 tester_present [] timeout ∷
    within 3 (read_identifier 0x0102) [] timeout ∷
    within 3 (write_identifier 0x0102 []) [] timeout ∷
    within 3 (fault_count 0x02) [] timeout ∷
    within 3 (fault_list 0x02) [] timeout ∷
    within 4 (routine 0x02 0x0102 none) [] timeout ∷
    within 2 (transfer 0x02 none) [] timeout ∷
    within 1 (transfer_exit none) [] timeout ∷ []

abbrev pub fits : BufferRow → Outcome
fits r = (call true usual r.call
    (record {
      buffer = replicate r.room 0xee;
      form = plain;
      events = event_bytes 0 r.said;
      replies = joined
          r.said;
      listens = 0;
    })).answer.outcome

-- A timing that lets a time above 65,535 be in time.
abbrev pub slow : Setting
slow = record { timing = record { p2 = 100000; star = 5000000000 }; overall = none; limit = none; server_timing = true; quiet = false }

abbrev pub broken : Said → Example
broken s = whole true usual (session 0x03) (s ∷ []) (gives (refused 10) 0 0 0 0) (50, 5000) []

-- Each field of an event in its width: "time u32, kind u16, offset into reply bytes u16, length u16"; and each limit by one.
unfoldable pub event_fields : List Example
event_fields =
    whole true slow (read_identifier 0xf190) (says 70000 (0x62 ∷ 0xf1 ∷ 0x90 ∷ 0x41 ∷ []) ∷ [])
    (gives (positive (part 3 (0x41 ∷ []))) 70000 1 0 0) (100000, 5000000000)
    (0x22 ∷ 0xf1 ∷ 0x90 ∷ []) ∷
    whole true slow (read_identifier 0xf190) (says 100000 (0x7f ∷ 0x22 ∷ 0x78 ∷ []) ∷ says 4294967295 (0x62 ∷ 0xf1 ∷ 0x90 ∷ 0x41 ∷ []) ∷ [])
    (gives (positive (part 6 (0x41 ∷ []))) 4294967295 2 1 0) (100000, 5000000000) (0x22 ∷ 0xf1 ∷ 0x90 ∷ []) ∷
    row false usual (read_identifier 0xf190) (says 10 (0x7f ∷ 0x22 ∷ 0x78 ∷ replicate 300 0) ∷ says 20 (0x62 ∷ 0xf1 ∷ 0x90 ∷ 0x41 ∷ []) ∷ [])
    (gives (positive (part 306 (0x41 ∷ []))) 20 2 1 0) ∷
    row true usual (read_memory field (given (0x01 ∷ 0x04 ∷ []))) (says 10 (0x63 ∷ replicate 260 0xaa) ∷ [])
    (gives (positive (part 1 (replicate 260 0xaa))) 10 1 0 0) ∷
    row true usual (read_identifier 0xf190) (raw (entry 20 3 0 0x0102) ∷ []) (gives (transport 0x0102) 20 1 0 0) ∷
    broken (raw (entry 20 0x0100 0 0)) ∷
    broken (raw (entry 20 0x0101 0 0)) ∷
    broken (raw (entry 20 0x0103 0 0)) ∷
    broken (raw (entry 20 0 0x0100 0)) ∷
    broken (raw (entry 20 0 0 0x0100)) ∷
    -- Numbers that no bytes say: a time of 2^32, an error number of 65,536, a reply that holds 256.
    broken (raw (256 ∷ 0 ∷ 0 ∷ 0 ∷ 0 ∷ 1 ∷ 0 ∷ 0 ∷ 0 ∷ 0 ∷ [])) ∷
    broken (raw (0 ∷ 0 ∷ 0 ∷ 0 ∷ 0 ∷ 3 ∷ 0 ∷ 0 ∷ 256 ∷ 0 ∷ [])) ∷
    broken (says 10 (256 ∷ [])) ∷
    row true usual (read_memory field (given (0x01 ∷ []))) (says 10 (0x63 ∷ 255 ∷ []) ∷ []) (gives (positive (part 1 (255 ∷ []))) 10 1 0 0) ∷ []

-- The numbers that rows give to calls of this number.
abbrev pub number_in : Outcome → List ℕ
number_in (refused n) = n ∷ []
number_in (positive p) = []
number_in suppressed = []
number_in (negative c) = []
number_in timeout = []
number_in pending_limit = []
number_in disconnected = []
number_in (transport n) = []
number_in (fault f) = []

abbrev pub shown_by : ℕ → List BufferRow → List ℕ
shown_by k [] = []
shown_by k (r ∷ rs) = cond (eqb (numbered r.call) k) (number_in r.outcome) [] ++ shown_by k rs

abbrev pub shown_in : ℕ → List Example → List ℕ
shown_in k [] = []
shown_in k (e ∷ es) = cond (eqb (numbered e.call) k) (number_in e.gives.outcome) [] ++ shown_in k es

abbrev pub all_among : List ℕ → List ℕ → Bool
all_among [] ns = true
all_among (n ∷ ms) ns = among ns n && all_among ms ns

-- Each refusal that a call is said to have of its own is given by a row.
abbrev pub own_given : ℕ → Bool
own_given k = all_among (get_or own k []) (shown_by k buffer_rows ++ shown_in k (in_order5 ++ in_order6 ++ in_order11 ++ in_order12))

abbrev pub OwnGiven : Type 0
OwnGiven = map own_given (0 ∷ 1 ∷ 2 ∷ 3 ∷ 4 ∷ 5 ∷ 6 ∷ 7 ∷ 8 ∷ 9 ∷ 10 ∷ 11 ∷ 12 ∷ 13 ∷ 14 ∷ 15 ∷ []) ≡ replicate 16 true

abbrev pub RefusalRows : Type 0
RefusalRows =
    Hold in_order5 × Hold in_order6 × Hold in_order11 × Hold in_order12 × (map fits buffer_rows ≡ map (λ r. r.outcome) buffer_rows) × Hold event_fields ×
    OwnGiven
