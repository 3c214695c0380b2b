-- Where two rules meet, which one speaks: rows in the form of the examples, settled by running the Rust; the session timing of call 1; and a line for each outcome's word.
use Rattle.std.specs.Prelude.{ℕ, Bool, true, false, ◌≡◌, List, [], ◌∷◌, ◌++◌, map, replicate}
use Prim.Native.String.{String}
use Rattle.std.proofs.Math.Option.{none, some}
use Rattle.rules.specs.Answers.{Part, part, nowhere, Fault, deviation, deviation8, bad_length, overflow, positive, suppressed, negative, timeout, pending_limit, disconnected, transport, fault, refused, Answer, answer, refusal}
use Rattle.rules.specs.Calls.{Call, session, reset, security, read_memory, write_memory, read_identifier, write_identifier, fault_count, routine, download, transfer, fault_list, given, alfid}
use Rattle.rules.specs.Client.{call}
use Rattle.rules.specs.Examples.{says, lent, setting, usual, gives, Example, whole, row, runs, tells, one, load}
use Rattle.rules.specs.Lines.{ascii, line}
use Rattle.rules.specs.Settings.{Setting}

-- One reply at time 10 that is a fault.
abbrev pub faulty : Bool → Call → List ℕ → Fault → Example
faulty strict c r f = one strict c r (gives (fault f) 10 1 0 0)

-- A call that is refused.
abbrev pub turned : Call → ℕ → Example
turned c n = whole true usual c [] (gives (refused n) 0 0 0 0) (50, 5000) []

abbrev pub written : Call
written = write_memory (given (0x20 ∷ 0x00 ∷ [])) (given (0x01 ∷ [])) (0xaa ∷ [])

unfoldable pub meetings : List Example
meetings =
    -- SID (1) before length 1 (8), before the sub-function (3), before deviation 4.
    faulty true (reset 0x81) (0x50 ∷ []) (deviation 1) ∷
    faulty true (reset 0x81) (0x51 ∷ []) (deviation8 2 none) ∷
    faulty true (reset 0x81) (0x51 ∷ 0x02 ∷ []) (deviation 3) ∷
    -- An echo with bit 7 set is deviation 3.
    faulty true (reset 0x01) (0x51 ∷ 0x81 ∷ []) (deviation 3) ∷
    -- The length of a 7F before its SID; lenient goes by the third byte alone.
    faulty true (read_identifier 0xf190) (0x7f ∷ 0x31 ∷ 0x78 ∷ 0xaa ∷ []) (deviation8 3 (some 3)) ∷
    one false (read_identifier 0xf190) (0x7f ∷ 0x31 ∷ 0x78 ∷ 0xaa ∷ []) (gives timeout 5010 1 1 0) ∷
    -- Total length before the echo.
    faulty true (read_identifier 0xf190) (0x62 ∷ 0x00 ∷ 0x00 ∷ []) (deviation8 4 none) ∷
    faulty true (write_identifier 0xf190 (0x41 ∷ [])) (0x6e ∷ 0x00 ∷ 0x00 ∷ 0x00 ∷ []) (deviation8 3 (some 3)) ∷
    faulty true (routine 0x01 0xff00 none) (0x71 ∷ 0x01 ∷ 0x00 ∷ []) (deviation8 4 none) ∷
    faulty true (transfer 0x01 none) (0x76 ∷ 0x02 ∷ []) (deviation8 3 none) ∷
    faulty true (transfer 0x01 none) (0x76 ∷ 0x02 ∷ 0xaa ∷ []) (deviation 7) ∷
    -- Deviations 12, 13, 14 in that order.
    faulty true written (0x7d ∷ 0x11 ∷ 0x20 ∷ 0x01 ∷ 0x01 ∷ []) (deviation 12) ∷
    faulty true written (0x7d ∷ 0x12 ∷ 0x20 ∷ 0x01 ∷ 0x02 ∷ []) (deviation 13) ∷
    faulty true written (0x7d ∷ 0x12 ∷ 0x20 ∷ 0x00 ∷ 0x02 ∷ []) (deviation 14) ∷
    -- Record length before "empty"; all size bytes count, also those before the last eight.
    faulty true (read_memory (given (0x20 ∷ [])) (given (0x02 ∷ []))) (0x63 ∷ []) (deviation 15) ∷
    faulty true (read_memory (given (0x20 ∷ [])) (given (0x01 ∷ replicate 7 0 ++ (0x02 ∷ [])))) (0x63 ∷ 0xaa ∷ 0xbb ∷ []) (deviation 15) ∷
    -- Calls 11, 12 in order: empty, low nibble (10), n = 0 (9), length (8), value under 3 (11), overflow.
    faulty true load (0x74 ∷ []) (deviation8 2 none) ∷
    faulty true load (0x74 ∷ 0x01 ∷ []) (deviation 10) ∷
    faulty true load (0x74 ∷ 0x00 ∷ 0x01 ∷ []) (deviation 9) ∷
    faulty true load (0x74 ∷ 0x20 ∷ 0x02 ∷ []) (deviation8 4 (some 4)) ∷
    faulty true load (0x74 ∷ 0x90 ∷ 0x01 ∷ replicate 7 0 ++ (0x02 ∷ [])) overflow ∷
    one true load (0x74 ∷ 0x90 ∷ replicate 8 0 ++ (0x03 ∷ [])) (gives (positive (part 2 (replicate 8 0 ++ (0x03 ∷ [])))) 10 1 0 3) ∷
    one false load (0x74 ∷ 0x00 ∷ 0x05 ∷ []) (gives (positive (part 2 [])) 10 1 0 0) ∷
    -- A deviation does not wait until P2; a positive behind a notice does, under suppression.
    row true (setting none true) (session 0x01) (says 5 (0x7f ∷ 0x10 ∷ 0x78 ∷ []) ∷ says 10 (0x50 ∷ 0x01 ∷ 0x00 ∷ 0x32 ∷ 0x01 ∷ 0xf4 ∷ []) ∷ [])
    (gives (positive (part 5 (0x00 ∷ 0x32 ∷ 0x01 ∷ 0xf4 ∷ []))) 50 2 1 0) ∷
    -- A check after the positive that fails keeps the waited time.
    row true (setting none true) (session 0x01) (says 5 (0x7f ∷ 0x10 ∷ 0x78 ∷ []) ∷ says 10 (0x50 ∷ 0x01 ∷ []) ∷ [])
    (gives (fault (deviation8 6 (some 6))) 50 2 1 0) ∷
    -- Silence behind a notice is a timeout, suppressed or not.
    row true (setting none true) (session 0x01) (says 5 (0x7f ∷ 0x10 ∷ 0x78 ∷ []) ∷ []) (gives timeout 5005 1 1 0) ∷
    -- An event behind the settling one is never counted, nor one past T.
    row false (setting (some 30) false) (reset 0x81) (says 10 (0x51 ∷ 0x01 ∷ []) ∷ says 20 (0x51 ∷ 0x01 ∷ []) ∷ []) (gives timeout 30 1 0 0) ∷
    -- In lenient call 9 hands out the first four bytes, call 1 its record only if it is of four.
    one false (fault_count 0xff) (0x59 ∷ 0x01 ∷ 0x01 ∷ 0x02 ∷ 0x03 ∷ 0x04 ∷ 0x05 ∷ []) (gives (positive (part 2 (0x01 ∷ 0x02 ∷ 0x03 ∷ 0x04 ∷ []))) 10 1 0 0) ∷
    one false (session 0x01) (0x50 ∷ 0x01 ∷ 0x00 ∷ []) (gives (positive (part 2 [])) 10 1 0 0) ∷
    -- Refusals: `alfid` address, then size; 4, 5 before 2, 3; 2 before 3; 1; 8 before 9.
    turned (download 16 16 (alfid 1 9 false) (alfid 1 0 false)) 6 ∷
    turned (download 16 16 (alfid 256 1 false) (alfid 1 0 false)) 7 ∷
    turned (download 16 16 (alfid 1 1 false) (alfid 1 0 false)) 6 ∷
    turned (download 16 16 (given []) (given [])) 4 ∷
    turned (download 15 16 (given []) (given [])) 5 ∷
    turned (download 15 15 (given []) (given [])) 2 ∷
    turned (download 15 15 (given (0x01 ∷ [])) (given (replicate 16 0))) 3 ∷
    turned (security 0x02 none) 1 ∷
    turned (write_identifier 0xf190 (replicate 4093 0)) 8 ∷
    turned (write_identifier 0xf190 (replicate 62 0)) 9 ∷ []

-- The session's timing afterwards.
abbrev pub adopts : Bool → Bool → Call → List ℕ → ℕ × ℕ → Bool × Setting × Call × List ℕ × (ℕ × ℕ)
adopts strict server c r t = (strict, record { timing = usual.timing; overall = none; limit = none; server_timing = server; quiet = false }, c, r, t)

abbrev pub timings : List (Bool × Setting × Call × List ℕ × (ℕ × ℕ))
timings =
    adopts true true (session 0x03) (0x50 ∷ 0x03 ∷ 0x00 ∷ 0x19 ∷ 0x01 ∷ 0xf4 ∷ []) (25, 5000) ∷
    adopts true false (session 0x03) (0x50 ∷ 0x03 ∷ 0x00 ∷ 0x19 ∷ 0x01 ∷ 0xf4 ∷ []) (50, 5000) ∷
    adopts false true (session 0x03) (0x50 ∷ 0x03 ∷ 0x00 ∷ 0x19 ∷ 0xff ∷ 0xff ∷ []) (25, 655350) ∷
    adopts false true (session 0x03) (0x50 ∷ 0x03 ∷ 0x00 ∷ 0x19 ∷ 0xff ∷ 0xff ∷ 0x00 ∷ []) (50, 5000) ∷
    adopts true true (session 0x03) (0x50 ∷ 0x02 ∷ 0x00 ∷ 0x19 ∷ 0xff ∷ 0xff ∷ []) (50, 5000) ∷
    adopts true true (fault_count 0xff) (0x59 ∷ 0x01 ∷ 0x00 ∷ 0x19 ∷ 0x01 ∷ 0xf4 ∷ []) (50, 5000) ∷
    adopts false true (fault_list 0xff) (0x59 ∷ 0x02 ∷ 0x00 ∷ 0x19 ∷ 0x01 ∷ 0xf4 ∷ []) (50, 5000) ∷ []

abbrev pub printed : List (Answer × String)
printed =
    (answer (positive (part 2 (0x0f ∷ 0xfa ∷ []))) 8589934590 512 511 nowhere, "positive 8589934590 512 511 0ffa\n") ∷
    (answer (positive (part 2 [])) 0 1 0 nowhere, "positive 0 1 0 -\n") ∷
    (answer timeout 18446744073709551615 10 9 nowhere, "timeout 18446744073709551615 10 9 -\n") ∷
    (answer suppressed 50 0 0 nowhere, "suppressed 50 0 0 -\n") ∷
    (answer (negative 0x31) 10 1 0 (part 0 (0x7f ∷ 0x22 ∷ 0x31 ∷ [])), "negative 10 1 0 31\n") ∷
    (answer timeout 900 2 1 nowhere, "timeout 900 2 1 -\n") ∷
    (answer pending_limit 10 1 1 (part 0 (0x7f ∷ 0x22 ∷ 0x78 ∷ [])), "pendinglimit 10 1 1 -\n") ∷
    (answer disconnected 60 3 2 nowhere, "disconnected 60 3 2 -\n") ∷
    (answer (transport 0x68) 25 1 0 nowhere, "transport 25 1 0 0068\n") ∷
    (answer (fault (deviation 10)) 10 1 0 (part 0 (0x74 ∷ 0x01 ∷ [])), "deviation 10 1 0 0a7401\n") ∷
    (answer (fault (deviation8 1 none)) 1 1 0 (part 0 []), "deviation 1 1 0 08\n") ∷
    (answer (fault bad_length) 2 3 0 (part 0 (0x63 ∷ [])), "length 2 3 0 -\n") ∷
    (answer (fault overflow) 10 1 0 (part 0 (0x74 ∷ 0x90 ∷ [])), "overflow 10 1 0 7490\n") ∷
    -- Whatever reply stands beside: `-` for these, and only the number for those that have one.
    (answer suppressed 50 0 0 (part 0 (0x62 ∷ [])), "suppressed 50 0 0 -\n") ∷
    (answer timeout 50 0 0 (part 0 (0x62 ∷ [])), "timeout 50 0 0 -\n") ∷
    (answer disconnected 50 1 0 (part 0 (0x62 ∷ [])), "disconnected 50 1 0 -\n") ∷
    (answer (transport 0xfffe) 50 1 0 (part 0 (0x62 ∷ [])), "transport 50 1 0 fffe\n") ∷
    (answer (refused 3) 0 0 0 (part 0 (0x62 ∷ [])), "refused 0 0 0 03\n") ∷
    (refusal 10, "refused 0 0 0 0a\n") ∷ []

abbrev pub Readings : Type 0
Readings =
    (map runs meetings ≡ map tells meetings) ×
    (map (λ p. let t = (call p.0 p.1 p.2 (lent (says 10 p.3 ∷ []))).timing in (t.p2, t.star)) timings ≡ map (λ p. p.4) timings) ×
    (map (λ p. line p.0) printed ≡ map (λ p. ascii p.1) printed)
