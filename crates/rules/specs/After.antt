-- Document 01, "Checks after the positive, in order", the data handed out, the number of calls 11 and 12, and the session timing of call 1.
use Rattle.std.specs.Prelude.{ℕ, ◌+◌, ◌-◌, ◌*◌, ◌/◌, ◌%◌, ◌^◌, Bool, true, cond, ◌&&◌, List, [], ◌∷◌, leb, ltb, eqb, length, get_or, take, drop}
use Rattle.std.proofs.Math.Option.{Option, none, some}
use Rattle.rules.specs.Answers.{Part, part, behind, Fault, deviation, overflow, length_error, Outcome, positive, fault, if_positive, Answer, answer}
use Rattle.rules.specs.Bytes.{value, u16_at, same}
use Rattle.rules.specs.Calls.{Call, request, session, reset, security, tester_present, read_memory, write_memory, read_identifier, write_identifier, fault_count, routine, download, upload, transfer, transfer_exit, fault_list, sent, format, numbered, loads, head}
use Rattle.rules.specs.InOrder.{Check, unless, judge, in_strict}
use Rattle.rules.specs.Settings.{Timing}

-- "Strict bounds of total length": (least, most), or (least, none).
abbrev pub most : Option ℕ → ℕ → Bool
most none n = true
most (some k) n = leb n k

abbrev pub bounds : Bool → ℕ → Option ℕ → List ℕ → Check Fault
bounds strict least upper r = unless (in_strict strict (leb least (length r) && most upper (length r))) (length_error strict least upper)

abbrev pub exactly : Bool → ℕ → List ℕ → Check Fault
exactly strict n r = bounds strict n (some n) r

-- "Both modes then": so many bytes in all, else (least, none).
abbrev pub at_least : Bool → ℕ → List ℕ → Check Fault
at_least strict least r = unless (leb least (length r)) (length_error strict least none)

-- "Strict echoes": a test that is deviation n where it fails.
abbrev pub strictly : Bool → Bool → ℕ → Check Fault
strictly strict t n = unless (in_strict strict t) (deviation n)

-- "2 (3, 3) or (2, 2)"
abbrev pub reset_length : ℕ → ℕ
reset_length sub = cond (eqb (sub % 128) 4) 3 2

-- "13 (3 or 2, none)"
abbrev pub transfer_length : Option (List ℕ) → ℕ
transfer_length none = 3
transfer_length (some d) = 2

-- Calls 11 and 12: n and the n bytes.
abbrev pub length_bytes : List ℕ → ℕ
length_bytes r = get_or r 1 0 / 16

abbrev pub block_length : List ℕ → List ℕ
block_length r = take (length_bytes r) (drop 2 r)

abbrev pub loading : Bool → List ℕ → ℕ → ℕ → List (Check Fault)
loading strict r n v =
    at_least strict 2 r ∷
    strictly strict (eqb (get_or r 1 0 % 16) 0) 10 ∷
    strictly strict (ltb 0 n) 9 ∷
    unless (leb (n + 2) (length r) && in_strict strict (leb (length r) (n + 2))) (length_error strict (n + 2) (some (n + 2))) ∷
    strictly strict (leb 3 v) 11 ∷
    unless (ltb v (2 ^ 64)) overflow ∷ []

-- The checks of each call; r is the whole reply.
abbrev pub service_checks : Bool → Call → List ℕ → List (Check Fault)
service_checks strict (request sid sub x) r = []
service_checks strict (session sub) r = exactly strict 6 r ∷ []
service_checks strict (reset sub) r = exactly strict (reset_length sub) r ∷ []
service_checks strict (security sub x) r = cond (eqb (sub % 2) 1) (bounds strict 3 none r) (exactly strict 2 r) ∷ []
service_checks strict tester_present r = exactly strict 2 r ∷ []
service_checks strict (read_memory a s) r =
    strictly strict (eqb (length (drop 1 r)) (value (sent s))) 15 ∷ unless (in_strict strict (leb 2 (length r))) (length_error strict 2 none) ∷ []
service_checks strict (write_memory a s x) r =
    exactly strict (2 + length (sent a) + length (sent s)) r ∷
    strictly strict (eqb (get_or r 1 0) (format a s)) 12 ∷
    strictly strict (same (take (length (sent a)) (drop 2 r)) (sent a)) 13 ∷
    strictly strict (same (drop (length (sent a)) (drop 2 r)) (sent s)) 14 ∷ []
service_checks strict (read_identifier id) r = bounds strict 4 none r ∷ at_least strict 3 r ∷ strictly strict (eqb (u16_at r 1) id) 5 ∷ []
service_checks strict (write_identifier id x) r = exactly strict 3 r ∷ at_least strict 3 r ∷ strictly strict (eqb (u16_at r 1) id) 5 ∷ []
service_checks strict (fault_count mask) r =
    unless (leb 6 (length r) && in_strict strict (eqb (length r) 6)) (length_error strict 6 (some 6)) ∷ []
service_checks strict (routine sub id x) r = at_least strict 4 r ∷ strictly strict (eqb (u16_at r 2) id) 6 ∷ []
service_checks strict (download c e a s) r = loading strict r (length_bytes r) (value (block_length r))
service_checks strict (upload c e a s) r = loading strict r (length_bytes r) (value (block_length r))
service_checks strict (transfer counter x) r =
    bounds strict (transfer_length x) none r ∷ at_least strict 2 r ∷ strictly strict (eqb (get_or r 1 0) counter) 7 ∷ []
service_checks strict (transfer_exit x) r = []
-- Document 02: "Strict total length must be 3 plus a multiple of 4, else deviation 8 (3, none)"; "fewer than one byte after the sub-function is a length outcome."
service_checks strict (fault_list mask) r = unless (in_strict strict (eqb (length r % 4) 3)) (length_error strict 3 none) ∷ at_least strict 3 r ∷ []

-- A part's first n bytes; the part if it has n bytes, and else none of it.
abbrev pub first : ℕ → Part → Part
first n p = part p.at (take n p.bytes)

abbrev pub only : ℕ → Part → Part
only n p = first (cond (eqb (length p.bytes) n) n 0) p

-- Document 02: "Handed out are the availability mask and the records; lenient drops a broken tail": one byte, and as many fours as there are.
abbrev pub unbroken : Part → Part
unbroken p = first ((length p.bytes - 1) / 4 * 4 + 1) p

-- The data handed out of a reply. "In lenient, call 1 hands out its record only if exactly four bytes follow, call 2 its byte only if exactly one does, call 9 the first four, calls 5 and 6 all after the SID; the others as in the table. Call 0 hands out all after SID and sub-function."
abbrev pub handed : Call → Part → Part
handed (request sid sub x) p = behind (head sub) p
handed (session sub) p = only 4 (behind 2 p)
handed (reset sub) p = only 1 (behind 2 p)
handed (security sub x) p = cond (eqb (sub % 2) 1) (behind 2 p) (first 0 (behind 2 p))
handed tester_present p = first 0 (behind 2 p)
handed (read_memory a s) p = behind 1 p
handed (write_memory a s x) p = behind 1 p
handed (read_identifier id) p = behind 3 p
handed (write_identifier id x) p = first 0 (behind 3 p)
handed (fault_count mask) p = first 4 (behind 2 p)
handed (routine sub id x) p = behind 4 p
handed (download c e a s) p = first (length_bytes p.bytes) (behind 2 p)
handed (upload c e a s) p = first (length_bytes p.bytes) (behind 2 p)
handed (transfer counter x) p = behind 2 p
handed (transfer_exit x) p = behind 1 p
handed (fault_list mask) p = unbroken (behind 2 p)

-- "The checks after a positive come later still and keep its finishing time."
unfoldable pub checked : Bool → Call → Part → Outcome
checked strict c p = judge fault (service_checks strict c p.bytes) (positive (handed c p))

abbrev pub after : Bool → Call → Answer → Answer
after strict c x =
    answer (if_positive x.outcome (λ d. checked strict c x.reply) x.outcome) x.time x.events x.notices x.reply

-- "They also return the value as a number; lenient n = 0 gives 0." Of the other calls, and of other outcomes, 0.
abbrev pub number_of : Call → Outcome → ℕ
number_of c o = cond (loads c) (if_positive o (λ d. value d.bytes) 0) 0

-- "Call 1, answered positive with four data bytes and server timing on, sets the session's P2 to the first pair and P2* to ten times the second."
abbrev pub adopted : List ℕ → Timing → Timing
adopted d old = cond (eqb (length d) 4) (record { p2 = u16_at d 0; star = u16_at d 2 * 10 }) old

-- "Nothing else sets it."
abbrev pub timing_of : Bool → Call → Outcome → Timing → Timing
timing_of server_timing c o old = cond (eqb (numbered c) 1 && server_timing) (if_positive o (λ d. adopted d.bytes old) old) old
