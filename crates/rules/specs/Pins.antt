-- Rows that pin single clauses: lenient, T against each outcome, what stands just beside a refusal, each limit of refusal 10; what is sent, and the timing afterwards.
use Rattle.std.specs.Prelude.{ℕ, ◌*◌, true, false, ◌&&◌, ◌≡◌, List, [], ◌∷◌, map, length, replicate}
use Rattle.std.proofs.Math.Option.{none, some}
use Rattle.rules.specs.Answers.{part, deviation, deviation8, bad_length, overflow, positive, suppressed, negative, timeout, disconnected, transport, fault, refused}
use Rattle.rules.specs.Calls.{Call, request, session, reset, security, tester_present, read_memory, read_identifier, write_identifier, fault_count, routine, download, upload, transfer, transfer_exit, given, alfid}
use Rattle.rules.specs.Bytes.{every}
use Rattle.rules.specs.Events.{Form, event_size, entries, sound, rising, within_limits}
use Rattle.rules.specs.Examples.{says, idles, closes, breaks, raw, entry, setting, usual, gives, Example, whole, row, runs, tells, one, load}
use Rattle.rules.specs.Readings.{turned, written}
use Rattle.rules.specs.Settings.{Setting}

abbrev pub memory_of_two : Call
memory_of_two = read_memory (given (0x20 ∷ [])) (given (0x02 ∷ []))

-- P2* shorter than P2.
abbrev pub hasty : Setting
hasty = record { timing = record { p2 = 100; star = 10 }; overall = none; limit = none; server_timing = true; quiet = false }

abbrev pub Hold : List Example → Type 0
Hold rows = map runs rows ≡ map tells rows

-- Lenient, the exchange: the least lengths stay, first byte, SID and echo are not looked at.
unfoldable pub lenient_exchange : List Example
lenient_exchange =
    one false (read_identifier 0xf190) [] (gives (fault bad_length) 10 1 0 0) ∷
    one true (read_identifier 0xf190) [] (gives (fault (deviation8 1 none)) 10 1 0 0) ∷
    one false (request 0x3f none none) [] (gives (fault bad_length) 10 1 0 0) ∷
    one false memory_of_two [] (gives (fault bad_length) 10 1 0 0) ∷
    one false (transfer_exit none) [] (gives (fault bad_length) 10 1 0 0) ∷
    one false (read_identifier 0xf190) (0x7f ∷ 0x22 ∷ []) (gives (fault bad_length) 10 1 0 0) ∷
    one false (read_identifier 0xf190) (0x7f ∷ 0x22 ∷ 0x31 ∷ 0xaa ∷ []) (gives (negative 0x31) 10 1 0 0) ∷
    one false (read_identifier 0xf190) (0x7f ∷ 0x31 ∷ 0x22 ∷ []) (gives (negative 0x22) 10 1 0 0) ∷
    one false (reset 0x01) (0x00 ∷ 0x01 ∷ []) (gives (positive (part 2 [])) 10 1 0 0) ∷
    one false (reset 0x01) (0x51 ∷ []) (gives (fault bad_length) 10 1 0 0) ∷
    one false (reset 0x01) (0x51 ∷ 0x02 ∷ []) (gives (positive (part 2 [])) 10 1 0 0) ∷ []

-- Lenient, calls 0 to 14: what is handed out, and the lengths that both modes need.
unfoldable pub lenient_calls : List Example
lenient_calls =
    one false (request 0x3f none none) (0x00 ∷ 0xaa ∷ []) (gives (positive (part 1 (0xaa ∷ []))) 10 1 0 0) ∷
    one false (request 0x3f (some 0x01) none) (0x7e ∷ 0x05 ∷ 0xaa ∷ []) (gives (positive (part 2 (0xaa ∷ []))) 10 1 0 0) ∷
    one false (session 0x01) (0x50 ∷ 0x01 ∷ 0x00 ∷ 0x32 ∷ 0x01 ∷ 0xf4 ∷ 0x00 ∷ []) (gives (positive (part 2 [])) 10 1 0 0) ∷
    one false (reset 0x01) (0x51 ∷ 0x01 ∷ 0xaa ∷ []) (gives (positive (part 2 (0xaa ∷ []))) 10 1 0 0) ∷
    one false (reset 0x04) (0x51 ∷ 0x04 ∷ 0xaa ∷ 0xbb ∷ []) (gives (positive (part 2 [])) 10 1 0 0) ∷
    one false (reset 0x04) (0x51 ∷ 0x04 ∷ []) (gives (positive (part 2 [])) 10 1 0 0) ∷
    one false (security 0x01 none) (0x67 ∷ 0x01 ∷ []) (gives (positive (part 2 [])) 10 1 0 0) ∷
    one false (security 0x02 (some [])) (0x67 ∷ 0x02 ∷ 0xaa ∷ []) (gives (positive (part 2 [])) 10 1 0 0) ∷
    one false tester_present (0x7e ∷ 0x00 ∷ 0xaa ∷ []) (gives (positive (part 2 [])) 10 1 0 0) ∷
    one false memory_of_two (0x63 ∷ []) (gives (positive (part 1 [])) 10 1 0 0) ∷
    one false memory_of_two (0x63 ∷ 0xaa ∷ 0xbb ∷ 0xcc ∷ []) (gives (positive (part 1 (0xaa ∷ 0xbb ∷ 0xcc ∷ []))) 10 1 0 0) ∷
    one false written (0x7d ∷ []) (gives (positive (part 1 [])) 10 1 0 0) ∷
    one false written (0x7d ∷ 0x00 ∷ 0x01 ∷ []) (gives (positive (part 1 (0x00 ∷ 0x01 ∷ []))) 10 1 0 0) ∷
    one false (read_identifier 0xf190) (0x62 ∷ 0xf1 ∷ []) (gives (fault bad_length) 10 1 0 0) ∷
    one false (read_identifier 0xf190) (0x62 ∷ 0xf1 ∷ 0x90 ∷ []) (gives (positive (part 3 [])) 10 1 0 0) ∷
    one false (read_identifier 0xf190) (0x62 ∷ 0x00 ∷ 0x00 ∷ 0x41 ∷ []) (gives (positive (part 3 (0x41 ∷ []))) 10 1 0 0) ∷
    one false (write_identifier 0xf190 (0x41 ∷ [])) (0x6e ∷ 0xf1 ∷ []) (gives (fault bad_length) 10 1 0 0) ∷
    one false (write_identifier 0xf190 (0x41 ∷ [])) (0x6e ∷ 0x00 ∷ 0x00 ∷ 0x41 ∷ []) (gives (positive (part 3 [])) 10 1 0 0) ∷
    one false (fault_count 0xff) (0x59 ∷ 0x01 ∷ 0x01 ∷ 0x02 ∷ 0x03 ∷ []) (gives (fault bad_length) 10 1 0 0) ∷
    one false (routine 0x01 0xff00 none) (0x71 ∷ 0x01 ∷ 0xff ∷ []) (gives (fault bad_length) 10 1 0 0) ∷
    one false (routine 0x01 0xff00 none) (0x71 ∷ 0x01 ∷ 0x00 ∷ 0x00 ∷ 0xaa ∷ []) (gives (positive (part 4 (0xaa ∷ []))) 10 1 0 0) ∷
    one false load (0x74 ∷ []) (gives (fault bad_length) 10 1 0 0) ∷
    one false load (0x74 ∷ 0x01 ∷ []) (gives (positive (part 2 [])) 10 1 0 0) ∷
    one false load (0x74 ∷ 0x20 ∷ 0x02 ∷ []) (gives (fault bad_length) 10 1 0 0) ∷
    one false load (0x74 ∷ 0x10 ∷ 0x02 ∷ 0x05 ∷ []) (gives (positive (part 2 (0x02 ∷ []))) 10 1 0 2) ∷
    one false load (0x74 ∷ 0x10 ∷ 0x02 ∷ replicate 9 0xff) (gives (positive (part 2 (0x02 ∷ []))) 10 1 0 2) ∷
    one false load (0x74 ∷ 0x90 ∷ 0x01 ∷ replicate 8 0) (gives (fault overflow) 10 1 0 0) ∷
    one false (transfer 0x01 none) (0x76 ∷ []) (gives (fault bad_length) 10 1 0 0) ∷
    one false (transfer 0x01 none) (0x76 ∷ 0x02 ∷ []) (gives (positive (part 2 [])) 10 1 0 0) ∷
    one false (transfer_exit none) (0x00 ∷ 0xaa ∷ []) (gives (positive (part 1 (0xaa ∷ []))) 10 1 0 0) ∷ []

-- Strict, right at each bound.
unfoldable pub strict_bounds : List Example
strict_bounds =
    one true (session 0x01) (0x50 ∷ 0x01 ∷ 0x00 ∷ 0x32 ∷ 0x01 ∷ 0xf4 ∷ 0x00 ∷ []) (gives (fault (deviation8 6 (some 6))) 10 1 0 0) ∷
    one true (reset 0x04) (0x51 ∷ 0x04 ∷ []) (gives (fault (deviation8 3 (some 3))) 10 1 0 0) ∷
    one true (reset 0x01) (0x51 ∷ 0x01 ∷ 0xaa ∷ []) (gives (fault (deviation8 2 (some 2))) 10 1 0 0) ∷
    one true (security 0x01 none) (0x67 ∷ 0x01 ∷ []) (gives (fault (deviation8 3 none)) 10 1 0 0) ∷
    one true (security 0x02 (some [])) (0x67 ∷ 0x02 ∷ 0xaa ∷ []) (gives (fault (deviation8 2 (some 2))) 10 1 0 0) ∷
    one true tester_present (0x7e ∷ 0x00 ∷ 0xaa ∷ []) (gives (fault (deviation8 2 (some 2))) 10 1 0 0) ∷
    one true (fault_count 0xff) (0x59 ∷ 0x01 ∷ 0x01 ∷ 0x02 ∷ 0x03 ∷ []) (gives (fault (deviation8 6 (some 6))) 10 1 0 0) ∷
    one true (fault_count 0xff) (0x59 ∷ 0x01 ∷ 0x01 ∷ 0x02 ∷ 0x03 ∷ 0x04 ∷ 0x05 ∷ []) (gives (fault (deviation8 6 (some 6))) 10 1 0 0) ∷
    one true (transfer 0x01 (some (0xaa ∷ []))) (0x76 ∷ 0x01 ∷ []) (gives (positive (part 2 [])) 10 1 0 0) ∷
    one true (transfer 0x01 (some [])) (0x76 ∷ []) (gives (fault (deviation8 2 none)) 10 1 0 0) ∷
    one true (routine 0x01 0xff00 none) (0x71 ∷ 0x01 ∷ 0x00 ∷ 0x00 ∷ []) (gives (fault (deviation 6)) 10 1 0 0) ∷
    one true (read_identifier 0xf190) (0x62 ∷ 0xf1 ∷ 0x91 ∷ 0x41 ∷ []) (gives (fault (deviation 5)) 10 1 0 0) ∷
    one true (write_identifier 0xf190 (0x41 ∷ [])) (0x6e ∷ 0xf1 ∷ 0x91 ∷ []) (gives (fault (deviation 5)) 10 1 0 0) ∷
    one true written (0x7d ∷ 0x12 ∷ 0x20 ∷ 0x00 ∷ []) (gives (fault (deviation8 5 (some 5))) 10 1 0 0) ∷
    one true written (0x7d ∷ 0x12 ∷ 0x20 ∷ 0x00 ∷ 0x01 ∷ 0xaa ∷ []) (gives (fault (deviation8 5 (some 5))) 10 1 0 0) ∷
    one true written (0x7d ∷ 0x11 ∷ []) (gives (fault (deviation8 5 (some 5))) 10 1 0 0) ∷
    one true load (0x74 ∷ 0x10 ∷ 0x03 ∷ 0x05 ∷ []) (gives (fault (deviation8 3 (some 3))) 10 1 0 0) ∷
    one true load (0x74 ∷ 0x10 ∷ 0x02 ∷ 0x05 ∷ []) (gives (fault (deviation8 3 (some 3))) 10 1 0 0) ∷
    one true load (0x74 ∷ 0x10 ∷ 0x03 ∷ []) (gives (positive (part 2 (0x03 ∷ []))) 10 1 0 3) ∷
    one true load (0x74 ∷ 0x80 ∷ 0xff ∷ 0xff ∷ 0xff ∷ 0xff ∷ 0xff ∷ 0xff ∷ 0xff ∷ 0xff ∷ []) (gives (positive (part 2 (0xff ∷ 0xff ∷ 0xff ∷ 0xff ∷ 0xff ∷ 0xff ∷ 0xff ∷ 0xff ∷ []))) 10 1 0 18446744073709551615) ∷ []

-- Idle changes nothing, up to the deadline it is read; an end and an error settle, behind a notice too.
unfoldable pub events : List Example
events =
    row true usual (read_identifier 0xf190) (idles 10 ∷ idles 50 ∷ idles 51 ∷ []) (gives timeout 50 2 0 0) ∷
    row true usual (read_identifier 0xf190) (idles 40 ∷ says 50 (0x62 ∷ 0xf1 ∷ 0x90 ∷ 0x41 ∷ []) ∷ []) (gives (positive (part 3 (0x41 ∷ []))) 50 2 0 0) ∷
    row true usual (read_identifier 0xf190) (closes 50 ∷ []) (gives disconnected 50 1 0 0) ∷
    row true usual (read_identifier 0xf190) (closes 51 ∷ []) (gives timeout 50 0 0 0) ∷
    row true usual (read_identifier 0xf190) (breaks 50 0x68 ∷ []) (gives (transport 0x68) 50 1 0 0) ∷
    row true usual (read_identifier 0xf190) (breaks 51 0x68 ∷ []) (gives timeout 50 0 0 0) ∷
    row true usual (read_identifier 0xf190) (says 10 (0x7f ∷ 0x22 ∷ 0x78 ∷ []) ∷ idles 60 ∷ says 5010 (0x7f ∷ 0x22 ∷ 0x78 ∷ []) ∷ closes 10010 ∷ []) (gives disconnected 10010 4 2 0) ∷
    row false (setting none true) (reset 0x01) (idles 5 ∷ closes 20 ∷ []) (gives disconnected 20 2 0 0) ∷
    row true (setting none true) (reset 0x01) (breaks 20 65535 ∷ []) (gives (transport 65535) 20 1 0 0) ∷
    row true (setting none true) (reset 0x01) (idles 50 ∷ idles 51 ∷ []) (gives suppressed 50 1 0 0) ∷
    -- "waits until P2 if later": behind P2 it is the event's time. A notice may bring the deadline forward.
    row true (setting none true) (reset 0x01) (says 5 (0x7f ∷ 0x11 ∷ 0x78 ∷ []) ∷ says 100 (0x51 ∷ 0x01 ∷ []) ∷ []) (gives (positive (part 5 [])) 100 2 1 0) ∷
    row true (setting none true) (reset 0x01) (says 5 (0x7f ∷ 0x11 ∷ 0x78 ∷ []) ∷ says 100 (0x7f ∷ 0x11 ∷ 0x22 ∷ []) ∷ []) (gives (negative 0x22) 100 2 1 0) ∷
    whole true hasty (reset 0x01) (says 5 (0x7f ∷ 0x11 ∷ 0x78 ∷ []) ∷ says 16 (0x51 ∷ 0x01 ∷ []) ∷ []) (gives timeout 15 1 1 0) (100, 10) (0x11 ∷ 0x01 ∷ []) ∷ []

-- T against each outcome: at its time it stands, a millisecond less and it is a timeout at T.
unfoldable pub overall : List Example
overall =
    row true (setting (some 20) false) (read_identifier 0xf190) (says 10 (0x7f ∷ 0x22 ∷ 0x78 ∷ []) ∷ says 20 (0x62 ∷ 0xf1 ∷ 0x90 ∷ 0x41 ∷ []) ∷ []) (gives (positive (part 6 (0x41 ∷ []))) 20 2 1 0) ∷
    row true (setting (some 19) false) (read_identifier 0xf190) (says 10 (0x7f ∷ 0x22 ∷ 0x78 ∷ []) ∷ says 20 (0x62 ∷ 0xf1 ∷ 0x90 ∷ 0x41 ∷ []) ∷ []) (gives timeout 19 1 1 0) ∷
    row true (setting (some 20) false) (read_identifier 0xf190) (says 10 (0x7f ∷ 0x22 ∷ 0x78 ∷ []) ∷ says 20 (0x7f ∷ 0x22 ∷ 0x31 ∷ []) ∷ []) (gives (negative 0x31) 20 2 1 0) ∷
    row true (setting (some 19) false) (read_identifier 0xf190) (says 10 (0x7f ∷ 0x22 ∷ 0x78 ∷ []) ∷ says 20 (0x7f ∷ 0x22 ∷ 0x31 ∷ []) ∷ []) (gives timeout 19 1 1 0) ∷
    row true (setting (some 50) true) (reset 0x01) (says 10 (0x7f ∷ 0x11 ∷ 0x22 ∷ []) ∷ []) (gives (negative 0x22) 50 1 0 0) ∷
    row true (setting (some 49) true) (reset 0x01) (says 10 (0x7f ∷ 0x11 ∷ 0x22 ∷ []) ∷ []) (gives timeout 49 1 0 0) ∷
    row true (setting (some 50) true) (reset 0x01) (idles 50 ∷ []) (gives suppressed 50 1 0 0) ∷
    row true (setting (some 49) true) (reset 0x01) (idles 50 ∷ []) (gives timeout 49 0 0 0) ∷
    row true (setting (some 50) false) (read_identifier 0xf190) (idles 49 ∷ []) (gives timeout 50 1 0 0) ∷
    row true (setting (some 49) false) (read_identifier 0xf190) (idles 49 ∷ []) (gives timeout 49 1 0 0) ∷
    row false (setting (some 20) false) (read_identifier 0xf190) (says 10 (0x7f ∷ 0x22 ∷ 0x78 ∷ []) ∷ closes 20 ∷ []) (gives disconnected 20 2 1 0) ∷
    row false (setting (some 19) false) (read_identifier 0xf190) (says 10 (0x7f ∷ 0x22 ∷ 0x78 ∷ []) ∷ closes 20 ∷ []) (gives timeout 19 1 1 0) ∷
    row true (setting (some 20) false) (read_identifier 0xf190) (says 10 (0x7f ∷ 0x22 ∷ 0x78 ∷ []) ∷ breaks 20 1 ∷ []) (gives (transport 1) 20 2 1 0) ∷
    row true (setting (some 19) false) (read_identifier 0xf190) (says 10 (0x7f ∷ 0x22 ∷ 0x78 ∷ []) ∷ breaks 20 1 ∷ []) (gives timeout 19 1 1 0) ∷
    row true (setting (some 10) true) (reset 0x01) (says 10 (0x51 ∷ 0x01 ∷ []) ∷ []) (gives (fault (deviation 4)) 10 1 0 0) ∷
    row true (setting (some 9) true) (reset 0x01) (says 10 (0x51 ∷ 0x01 ∷ []) ∷ []) (gives timeout 9 0 0 0) ∷
    row false (setting (some 10) false) (read_identifier 0xf190) (says 10 (0x62 ∷ []) ∷ []) (gives (fault bad_length) 10 1 0 0) ∷
    row false (setting (some 9) false) (read_identifier 0xf190) (says 10 (0x62 ∷ []) ∷ []) (gives timeout 9 0 0 0) ∷
    row true (setting (some 10) false) load (says 10 (0x74 ∷ 0x90 ∷ 0x01 ∷ replicate 8 0) ∷ []) (gives (fault overflow) 10 1 0 0) ∷
    row true (setting (some 9) false) load (says 10 (0x74 ∷ 0x90 ∷ 0x01 ∷ replicate 8 0) ∷ []) (gives timeout 9 0 0 0) ∷
    row true (setting (some 15) false) (read_identifier 0xf190) (says 10 (0x7f ∷ 0x22 ∷ 0x78 ∷ []) ∷ idles 15 ∷ says 20 (0x7f ∷ 0x22 ∷ 0x78 ∷ []) ∷ [])
    (gives timeout 15 2 1 0) ∷
    row true (setting (some 0) false) (read_identifier 0xf190) (says 0 (0x62 ∷ 0xf1 ∷ 0x90 ∷ 0x41 ∷ []) ∷ []) (gives (positive (part 3 (0x41 ∷ []))) 0 1 0 0) ∷ []

-- Requests in full, the buffer behind them as it was; the timing that a session sets, or leaves under T.
unfoldable pub requests : List Example
requests =
    whole true usual (session 0x03) (says 10 (0x50 ∷ 0x03 ∷ 0x00 ∷ 0x19 ∷ 0x01 ∷ 0xf5 ∷ []) ∷ []) (gives (positive (part 2 (0x00 ∷ 0x19 ∷ 0x01 ∷ 0xf5 ∷ []))) 10 1 0 0) (25, 5010) (0x10 ∷ 0x03 ∷ []) ∷
    whole false usual (session 0x03) (says 10 (0x50 ∷ 0x04 ∷ 0x00 ∷ 0x19 ∷ 0x01 ∷ 0xf5 ∷ []) ∷ []) (gives (positive (part 2 (0x00 ∷ 0x19 ∷ 0x01 ∷ 0xf5 ∷ []))) 10 1 0 0) (25, 5010) (0x10 ∷ 0x03 ∷ []) ∷
    whole true (setting (some 9) false) (session 0x03) (says 10 (0x50 ∷ 0x03 ∷ 0x00 ∷ 0x19 ∷ 0x01 ∷ 0xf5 ∷ []) ∷ []) (gives timeout 9 0 0 0) (50, 5000) (0x10 ∷ 0x03 ∷ []) ∷
    whole true (setting none true) (session 0x03) (says 10 (0x50 ∷ 0x03 ∷ 0x00 ∷ 0x19 ∷ 0x01 ∷ 0xf5 ∷ []) ∷ []) (gives (fault (deviation 4)) 10 1 0 0) (50, 5000) (0x10 ∷ 0x83 ∷ []) ∷
    whole false (setting none true) (session 0x03) (says 10 (0x50 ∷ 0x03 ∷ 0x00 ∷ 0x19 ∷ 0x01 ∷ 0xf5 ∷ []) ∷ []) (gives (positive (part 2 (0x00 ∷ 0x19 ∷ 0x01 ∷ 0xf5 ∷ []))) 50 1 0 0) (25, 5010) (0x10 ∷ 0x83 ∷ []) ∷
    whole true (setting none true) tester_present ([]) (gives suppressed 50 0 0 0) (50, 5000) (0x3e ∷ 0x80 ∷ []) ∷
    whole true (setting none true) (read_identifier 0xf190) ([]) (gives timeout 50 0 0 0) (50, 5000) (0x22 ∷ 0xf1 ∷ 0x90 ∷ []) ∷
    whole true usual (read_memory (alfid 0x1234 4 false) (alfid 0x10 2 false)) ([]) (gives timeout 50 0 0 0) (50, 5000) (0x23 ∷ 0x24 ∷ 0x00 ∷ 0x00 ∷ 0x12 ∷ 0x34 ∷ 0x00 ∷ 0x10 ∷ []) ∷
    whole true usual written ([]) (gives timeout 50 0 0 0) (50, 5000) (0x3d ∷ 0x12 ∷ 0x20 ∷ 0x00 ∷ 0x01 ∷ 0xaa ∷ []) ∷
    whole true usual (upload 15 15 (given (0x01 ∷ [])) (alfid 255 1 false)) ([]) (gives timeout 50 0 0 0) (50, 5000) (0x35 ∷ 0xff ∷ 0x11 ∷ 0x01 ∷ 0xff ∷ []) ∷ []

-- Accepted beside each refusal: widths 1 and 8, a value of all its bytes, methods 15, lengths 1 and 15, an odd sub-function or empty data, a request as long as the buffer; 4,095 bytes are refused by the buffer only.
unfoldable pub beside : List Example
beside =
    row true usual (download 15 15 (alfid 255 1 false) (alfid 18446744073709551615 8 false)) [] (gives timeout 50 0 0 0) ∷
    row true usual (download 0 0 (given (replicate 15 0)) (given (0x01 ∷ []))) [] (gives timeout 50 0 0 0) ∷
    row true usual (read_memory (given (0x01 ∷ [])) (given (replicate 15 0))) [] (gives timeout 50 0 0 0) ∷
    row true usual (security 0x01 none) [] (gives timeout 50 0 0 0) ∷
    row true usual (security 0x02 (some [])) [] (gives timeout 50 0 0 0) ∷
    row true usual (write_identifier 0xf190 (replicate 61 0)) [] (gives timeout 50 0 0 0) ∷
    turned (write_identifier 0xf190 (replicate 4092 0)) 9 ∷
    turned (read_memory (given (replicate 16 0)) (given (0x01 ∷ []))) 2 ∷
    turned (read_memory (given (0x01 ∷ [])) (given [])) 3 ∷
    turned (upload 0 0 (alfid 1 8 false) (alfid 256 1 false)) 7 ∷
    turned (read_memory (alfid 1 9 false) (alfid 1 1 false)) 6 ∷
    turned (read_memory (alfid 0 0 false) (alfid 1 1 false)) 6 ∷
    turned (read_memory (alfid 1 1 false) (alfid 1 9 false)) 6 ∷
    row true usual (security 0x03 none) [] (gives timeout 50 0 0 0) ∷
    turned (security 0x04 none) 1 ∷ []

-- Refusal 10, limit by limit, with what is just allowed: a kind, the lent reply bytes, 4,095 bytes of a reply, times that do not fall, 512 events, whole events; an event behind the settling one is checked too.
unfoldable pub limits : List Example
limits =
    row true usual (read_identifier 0xf190) (raw (entry 20 3 0 65535) ∷ []) (gives (transport 65535) 20 1 0 0) ∷
    whole true usual (read_identifier 0xf190) (raw (entry 20 4 0 0) ∷ []) (gives (refused 10) 0 0 0 0) (50, 5000) [] ∷
    row true usual (read_identifier 0xf190) (says 10 (0x62 ∷ 0xf1 ∷ 0x90 ∷ 0x41 ∷ []) ∷ raw (entry 10 0 4 0) ∷ []) (gives (positive (part 3 (0x41 ∷ []))) 10 1 0 0) ∷
    whole true usual (read_identifier 0xf190) (says 10 (0x62 ∷ 0xf1 ∷ 0x90 ∷ 0x41 ∷ []) ∷ raw (entry 10 0 5 0) ∷ []) (gives (refused 10) 0 0 0 0) (50, 5000) [] ∷
    row true usual (read_identifier 0xf190) (says 10 (0x62 ∷ 0xf1 ∷ 0x90 ∷ 0x41 ∷ []) ∷ raw (entry 10 0 1 3) ∷ []) (gives (positive (part 3 (0x41 ∷ []))) 10 1 0 0) ∷
    whole true usual (read_identifier 0xf190) (says 10 (0x62 ∷ 0xf1 ∷ 0x90 ∷ 0x41 ∷ []) ∷ raw (entry 10 0 1 4) ∷ []) (gives (refused 10) 0 0 0 0) (50, 5000) [] ∷
    row true usual (read_identifier 0xf190) (says 10 (replicate 4095 0x7f) ∷ []) (gives (fault (deviation8 3 (some 3))) 10 1 0 0) ∷
    whole true usual (read_identifier 0xf190) (says 10 (replicate 4096 0x7f) ∷ []) (gives (refused 10) 0 0 0 0) (50, 5000) [] ∷
    row true usual (read_identifier 0xf190) (idles 7 ∷ idles 7 ∷ []) (gives timeout 50 2 0 0) ∷
    whole true usual (read_identifier 0xf190) (idles 7 ∷ idles 6 ∷ []) (gives (refused 10) 0 0 0 0) (50, 5000) [] ∷
    whole true usual (read_identifier 0xf190) (says 10 (0x62 ∷ 0xf1 ∷ 0x90 ∷ 0x41 ∷ []) ∷ idles 9 ∷ []) (gives (refused 10) 0 0 0 0) (50, 5000) [] ∷
    row true usual (read_identifier 0xf190) (idles 4294967295 ∷ []) (gives timeout 50 0 0 0) ∷
    whole true usual (read_identifier 0xf190) (idles 7 ∷ raw (0x00 ∷ []) ∷ []) (gives (refused 10) 0 0 0 0) (50, 5000) [] ∷
    whole true usual (read_identifier 0xf190) (raw (replicate 9 0) ∷ []) (gives (refused 10) 0 0 0 0) (50, 5000) [] ∷ []

-- "At most 512 events": so many are looked at one by one, 513 are not. (As rows these would compute for minutes: an entry is found by counting from the list's front.)
abbrev pub AtMost512 : Type 0
AtMost512 =
    (form : Form) (events replies : List ℕ)
    → (length events ≡ 512 * event_size form → within_limits form events replies ≡ (rising 0 (entries form events) && every (sound replies) (entries form events))) ×
    (length events ≡ 513 * event_size form → within_limits form events replies ≡ false)

abbrev pub Pins : Type 0
Pins = Hold lenient_exchange × Hold lenient_calls × Hold strict_bounds × Hold events × Hold overall × Hold requests × Hold beside × Hold limits × AtMost512
