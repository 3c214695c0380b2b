-- Rows for the log: for each call sound logs with what they ask and the line that they give; logs that break one test of the layout; and
-- what stands just beside these.
use Rattle.std.specs.Prelude.{ℕ, ◌+◌, Bool, true, false, ◌≡◌, List, [], ◌∷◌, ◌++◌, map, length, take, drop, replicate}
use Prim.Native.String.{String}
use Rattle.std.proofs.Math.Option.{Option, none, some}
use Rattle.rules.specs.Bytes.{bytes_of, two}
use Rattle.rules.specs.Calls.{Call, request, session, reset, security, tester_present, read_memory, write_memory, read_identifier, write_identifier, fault_count, routine, download, upload, transfer, transfer_exit, fault_list, given}
use Rattle.rules.specs.Examples.{Said, says, idles, closes, breaks, raw, joined, entry, event_bytes, log}
use Rattle.rules.specs.Lines.{ascii}
use Rattle.rules.specs.Logs.{header_of, call_of, setting_of, line_of}
use Rattle.rules.specs.Settings.{Setting}

-- A log whose counts, offsets and total are right, with P2 50 and P2* 5000: call, flags, value, sub, address length, size length, T; the
-- argument bytes; what is said.
abbrev pub log_of : ℕ → ℕ → ℕ → ℕ → ℕ → ℕ → ℕ → List ℕ → List Said → List ℕ
log_of number flags v sub address size t args ss =
    let events_at = 36 + length args in
    let replies_at = events_at + length (event_bytes 0 ss) in
    (0 ∷ 1 ∷ number ∷ flags ∷ two v) ++
    (sub ∷ address ∷ size ∷ 0 ∷ two (length args)) ++
    two 36 ++
    two (length ss) ++
    two events_at ++
    two (length (joined ss)) ++
    two replies_at ++
    two (replies_at + length (joined ss)) ++
    bytes_of 4 50 ++
    bytes_of 4 5000 ++
    bytes_of 4 t ++
    args ++
    event_bytes 0 ss ++
    joined ss

-- A sound log: the setting and the call that it asks, and its line.
pub record LogRow : Type 0 where
  pub log : List ℕ
  pub setting : Setting
  pub call : Call
  pub line : String

abbrev pub log_row : List ℕ → Option ℕ → Bool → Bool → Call → String → LogRow
log_row l overall server quiet c line =
    record {
      log = l;
      setting = record { timing = record { p2 = 50; star = 5000 }; overall = overall; limit = none; server_timing = server; quiet = quiet };
      call = c;
      line = line;
    }

abbrev pub asks : LogRow → Setting × Call × List ℕ
asks r = (setting_of (header_of r.log), call_of (header_of r.log) r.log, line_of r.log)

abbrev pub wants : LogRow → Setting × Call × List ℕ
wants r = (r.setting, r.call, ascii r.line)

-- Calls 0 to 15, each field and flag in use: arguments are address, size, data; lenient and strict; T, server timing, the suppressed client.
unfoldable pub sound_logs : List LogRow
sound_logs =
    log_row (log_of 0 0x39 0x2f 0x03 0 0 60 (0x01 ∷ 0x02 ∷ []) (says 10 (0x6f ∷ 0x03 ∷ 0xaa ∷ []) ∷ [])) (some 60) false false
    (request 0x2f (some 0x03) (some (0x01 ∷ 0x02 ∷ []))) "positive 10 1 0 aa\n" ∷
    log_row (log_of 0 0x31 0xff 0xff 0 0 0 [] (says 10 (0x7f ∷ 0xff ∷ 0x11 ∷ []) ∷ [])) none false false
    (request 0xff (some 0xff) (some [])) "negative 50 1 0 11\n" ∷
    log_row (log_of 0 0x11 0x2f 0x03 0 0 0 [] []) none false false (request 0x2f (some 0x03) none) "timeout 50 0 0 -\n" ∷
    log_row (log_of 0 0x21 0x2f 0 0 0 0 (0x01 ∷ []) []) none false false (request 0x2f none (some (0x01 ∷ []))) "timeout 50 0 0 -\n" ∷
    log_row (log_of 0 0x01 0x3f 0 0 0 0 [] (says 10 (0x7f ∷ 0x01 ∷ []) ∷ [])) none false false (request 0x3f none none) "deviation 10 1 0 087f01\n" ∷
    log_row (log_of 0 0x04 0x3f 0 0 0 0 [] (says 10 (0x7f ∷ 0x01 ∷ []) ∷ [])) none false true (request 0x3f none none) "length 10 1 0 -\n" ∷
    log_row (log_of 1 0x03 0 0x03 0 0 0 [] (says 10 (0x50 ∷ 0x03 ∷ 0x00 ∷ 0x19 ∷ 0x01 ∷ 0xf4 ∷ []) ∷ [])) none true false
    (session 0x03) "positive 10 1 0 001901f4\n" ∷
    log_row (log_of 1 0x0d 0 0x7f 0 0 49 [] (idles 49 ∷ idles 50 ∷ [])) (some 49) false true (session 0x7f) "timeout 49 1 0 -\n" ∷
    log_row (log_of 1 0x01 0 0xff 0 0 0 [] []) none false false (session 0xff) "suppressed 50 0 0 -\n" ∷
    log_row (log_of 2 0x0e 0 0x01 0 0 50 [] (says 10 (0x51 ∷ 0x01 ∷ []) ∷ [])) (some 50) true true (reset 0x01) "positive 50 1 0 -\n" ∷
    log_row (log_of 2 0x01 0 0x81 0 0 0 [] []) none false false (reset 0x81) "suppressed 50 0 0 -\n" ∷
    log_row (log_of 3 0x21 0 0x02 0 0 0 (0xab ∷ 0xcd ∷ []) (closes 20 ∷ [])) none false false
    (security 0x02 (some (0xab ∷ 0xcd ∷ []))) "disconnected 20 1 0 -\n" ∷
    log_row (log_of 3 0x21 0 0x02 0 0 0 [] (says 10 (0x67 ∷ 0x02 ∷ []) ∷ [])) none false false (security 0x02 (some [])) "positive 10 1 0 -\n" ∷
    log_row (log_of 3 0x01 0 0x02 0 0 0 [] []) none false false (security 0x02 none) "refused 0 0 0 01\n" ∷
    log_row (log_of 4 0x05 0 0 0 0 0 [] []) none false true tester_present "suppressed 50 0 0 -\n" ∷
    log_row (log_of 4 0x0d 0 0 0 0 4294967295 [] []) (some 4294967295) false true tester_present "suppressed 50 0 0 -\n" ∷
    log_row (log_of 5 0x01 0 0 2 1 0 (0x20 ∷ 0x00 ∷ 0x02 ∷ []) (says 10 (0x63 ∷ 0xaa ∷ 0xbb ∷ []) ∷ [])) none false false
    (read_memory (given (0x20 ∷ 0x00 ∷ [])) (given (0x02 ∷ []))) "positive 10 1 0 aabb\n" ∷
    log_row (log_of 6 0x21 0 0 2 1 0 (0x20 ∷ 0x00 ∷ 0x03 ∷ 0xaa ∷ 0xbb ∷ 0xcc ∷ []) (says 10 (0x7d ∷ 0x12 ∷ 0x20 ∷ 0x00 ∷ 0x03 ∷ []) ∷ [])) none false false
    (write_memory (given (0x20 ∷ 0x00 ∷ [])) (given (0x03 ∷ [])) (0xaa ∷ 0xbb ∷ 0xcc ∷ [])) "positive 10 1 0 12200003\n" ∷
    log_row (log_of 7 0x01 0xffff 0 0 0 0 [] (breaks 30 0x0102 ∷ [])) none false false (read_identifier 0xffff) "transport 30 1 0 0102\n" ∷
    log_row (log_of 8 0x21 0xf190 0 0 0 0 (0x41 ∷ 0x42 ∷ []) (says 10 (0x6e ∷ 0xf1 ∷ 0x90 ∷ []) ∷ [])) none false false
    (write_identifier 0xf190 (0x41 ∷ 0x42 ∷ []))
    "positive 10 1 0 -\n" ∷
    log_row (log_of 9 0x01 0xff 0 0 0 0 [] (says 10 (0x59 ∷ 0x01 ∷ 0xff ∷ 0x01 ∷ 0x00 ∷ 0x03 ∷ []) ∷ [])) none false false
    (fault_count 0xff) "positive 10 1 0 ff010003\n" ∷
    log_row (log_of 10 0x21 0xff00 0x01 0 0 0 (0x05 ∷ []) (says 10 (0x71 ∷ 0x01 ∷ 0xff ∷ 0x00 ∷ 0x07 ∷ []) ∷ [])) none false false
    (routine 0x01 0xff00 (some (0x05 ∷ []))) "positive 10 1 0 07\n" ∷
    log_row (log_of 10 0x00 0x0203 0x01 0 0 0 [] []) none false false (routine 0x01 0x0203 none) "timeout 50 0 0 -\n" ∷
    log_row (log_of 11 0x01 0x0102 0 2 1 0 (0x20 ∷ 0x00 ∷ 0x10 ∷ []) (says 10 (0x74 ∷ 0x20 ∷ 0x0f ∷ 0xfa ∷ []) ∷ [])) none false false
    (download 1 2 (given (0x20 ∷ 0x00 ∷ [])) (given (0x10 ∷ []))) "positive 10 1 0 0ffa\n" ∷
    log_row (log_of 12 0x01 0x0f03 0 1 2 0 (0x20 ∷ 0x00 ∷ 0x10 ∷ []) (says 10 (0x75 ∷ 0x90 ∷ 0x01 ∷ replicate 8 0) ∷ [])) none false false
    (upload 15 3 (given (0x20 ∷ [])) (given (0x00 ∷ 0x10 ∷ []))) "overflow 10 1 0 7590010000000000000000\n" ∷
    log_row (log_of 13 0x21 0xff 0 0 0 0 (0xaa ∷ []) (says 10 (0x76 ∷ 0xff ∷ []) ∷ [])) none false false
    (transfer 0xff (some (0xaa ∷ []))) "positive 10 1 0 -\n" ∷
    log_row (log_of 13 0x01 0x01 0 0 0 0 [] (says 10 (0x76 ∷ 0x01 ∷ []) ∷ [])) none false false (transfer 0x01 none) "deviation 10 1 0 087601\n" ∷
    log_row (log_of 14 0x20 0 0 0 0 0 (0xaa ∷ 0xbb ∷ []) (says 10 (0x00 ∷ 0xcc ∷ []) ∷ [])) none false false
    (transfer_exit (some (0xaa ∷ 0xbb ∷ []))) "positive 10 1 0 cc\n" ∷
    log_row (log_of 14 0x03 0 0 0 0 0 [] (says 10 (0x77 ∷ []) ∷ [])) none true false (transfer_exit none) "positive 10 1 0 -\n" ∷
    log_row (log_of 15 0x01 0xff 0 0 0 0 [] (says 10 (0x59 ∷ 0x02 ∷ 0xff ∷ 0x12 ∷ 0x34 ∷ 0x56 ∷ 0x08 ∷ []) ∷ [])) none false false
    (fault_list 0xff) "positive 10 1 0 ff12345608\n" ∷ []

-- A refusal in a sound layout: the lengths and the methods as bytes, a request of more than 4,095 (one of 4,095 is sent, so 9 cannot come
-- up), and each bad event.
unfoldable pub refused_logs : List LogRow
refused_logs =
    log_row (log_of 5 0x01 0 0 0 1 0 (0x10 ∷ []) []) none false false (read_memory (given []) (given (0x10 ∷ []))) "refused 0 0 0 02\n" ∷
    log_row (log_of 5 0x01 0 0 255 1 0 (replicate 256 0) []) none false false (read_memory (given (replicate 255 0)) (given (0x00 ∷ []))) "refused 0 0 0 02\n" ∷
    log_row (log_of 6 0x21 0 0 1 16 0 (replicate 17 0) []) none false false (write_memory (given (0x00 ∷ [])) (given (replicate 16 0)) []) "refused 0 0 0 03\n" ∷
    log_row (log_of 11 0x01 0x1010 0 1 1 0 (0x20 ∷ 0x10 ∷ []) []) none false false (download 16 16 (given (0x20 ∷ [])) (given (0x10 ∷ []))) "refused 0 0 0 04\n" ∷
    log_row (log_of 12 0x01 0x0f10 0 1 1 0 (0x20 ∷ 0x10 ∷ []) []) none false false (upload 15 16 (given (0x20 ∷ [])) (given (0x10 ∷ []))) "refused 0 0 0 05\n" ∷
    log_row (log_of 8 0x21 0xf190 0 0 0 0 (replicate 4092 0) []) none false false (write_identifier 0xf190 (replicate 4092 0)) "timeout 50 0 0 -\n" ∷
    log_row (log_of 14 0x21 0 0 0 0 0 (replicate 4096 0) []) none false false (transfer_exit (some (replicate 4096 0))) "refused 0 0 0 08\n" ∷
    log_row (log_of 4 0x01 0 0 0 0 0 [] (raw (entry 20 4 7 7) ∷ [])) none false false tester_present "refused 0 0 0 0a\n" ∷
    log_row (log_of 4 0x01 0 0 0 0 0 [] (raw (entry 20 0x0100 0 0) ∷ [])) none false false tester_present "refused 0 0 0 0a\n" ∷
    log_row (log_of 4 0x01 0 0 0 0 0 [] (raw (entry 20 0 1 0) ∷ [])) none false false tester_present "refused 0 0 0 0a\n" ∷
    log_row (log_of 4 0x01 0 0 0 0 0 [] (idles 20 ∷ idles 19 ∷ [])) none false false tester_present "refused 0 0 0 0a\n" ∷ []

-- "Unused fields and bits are zero": a value, sub or lengths that the call does not use, or a value above a byte where it is one; and flag
-- 16 with another call than 0.
unfoldable pub unused_fields : List (List ℕ)
unused_fields =
    log_of 0 0x01 0x0100 0 0 0 0 [] [] ∷
    log_of 0 0x01 0 0x01 0 0 0 [] [] ∷
    log_of 0 0x21 0 0 1 0 0 (0x20 ∷ []) [] ∷
    log_of 0 0x21 0 0 0 1 0 (0x20 ∷ []) [] ∷
    log_of 1 0x01 0x01 0x03 0 0 0 [] [] ∷
    log_of 1 0x01 0 0x03 1 0 0 (0x20 ∷ []) [] ∷
    log_of 1 0x01 0 0x03 0 1 0 (0x20 ∷ []) [] ∷
    log_of 1 0x11 0 0x03 0 0 0 [] [] ∷
    log_of 2 0x01 0x01 0x03 0 0 0 [] [] ∷
    log_of 2 0x01 0 0x03 1 0 0 (0x20 ∷ []) [] ∷
    log_of 2 0x11 0 0x03 0 0 0 [] [] ∷
    log_of 3 0x21 0x01 0x03 0 0 0 [] [] ∷
    log_of 3 0x21 0 0x03 1 0 0 (0x20 ∷ []) [] ∷
    log_of 3 0x31 0 0x03 0 0 0 [] [] ∷
    log_of 4 0x01 0x01 0 0 0 0 [] [] ∷
    log_of 4 0x01 0 0x01 0 0 0 [] [] ∷
    log_of 4 0x01 0 0 1 0 0 (0x20 ∷ []) [] ∷
    log_of 4 0x11 0 0 0 0 0 [] [] ∷
    log_of 5 0x01 0x01 0 1 1 0 (0x20 ∷ 0x10 ∷ []) [] ∷
    log_of 5 0x01 0 0x01 1 1 0 (0x20 ∷ 0x10 ∷ []) [] ∷
    log_of 5 0x11 0 0 1 1 0 (0x20 ∷ 0x10 ∷ []) [] ∷
    log_of 6 0x21 0x01 0 1 1 0 (0x20 ∷ 0x10 ∷ []) [] ∷
    log_of 6 0x21 0 0x01 1 1 0 (0x20 ∷ 0x10 ∷ []) [] ∷
    log_of 6 0x31 0 0 1 1 0 (0x20 ∷ 0x10 ∷ []) [] ∷
    log_of 7 0x01 0xf190 0x01 0 0 0 [] [] ∷
    log_of 7 0x01 0xf190 0 1 0 0 (0x20 ∷ []) [] ∷
    log_of 7 0x11 0xf190 0 0 0 0 [] [] ∷
    log_of 8 0x21 0xf190 0x01 0 0 0 [] [] ∷
    log_of 8 0x21 0xf190 0 1 0 0 (0x20 ∷ []) [] ∷
    log_of 8 0x31 0xf190 0 0 0 0 [] [] ∷
    log_of 9 0x01 0x0100 0 0 0 0 [] [] ∷
    log_of 9 0x01 0 0x01 0 0 0 [] [] ∷
    log_of 9 0x01 0 0 1 0 0 (0x20 ∷ []) [] ∷
    log_of 9 0x11 0 0 0 0 0 [] [] ∷
    log_of 10 0x21 0xff00 0x01 1 0 0 (0x20 ∷ []) [] ∷
    log_of 10 0x31 0xff00 0x01 0 0 0 [] [] ∷
    log_of 11 0x01 0x0101 0x01 1 1 0 (0x20 ∷ 0x10 ∷ []) [] ∷
    log_of 11 0x11 0x0101 0 1 1 0 (0x20 ∷ 0x10 ∷ []) [] ∷
    log_of 12 0x01 0x0101 0x01 1 1 0 (0x20 ∷ 0x10 ∷ []) [] ∷
    log_of 12 0x11 0x0101 0 1 1 0 (0x20 ∷ 0x10 ∷ []) [] ∷
    log_of 13 0x21 0x0100 0 0 0 0 [] [] ∷
    log_of 13 0x21 0x01 0x01 0 0 0 [] [] ∷
    log_of 13 0x21 0x01 0 1 0 0 (0x20 ∷ []) [] ∷
    log_of 13 0x31 0x01 0 0 0 0 [] [] ∷
    log_of 14 0x21 0x01 0 0 0 0 [] [] ∷
    log_of 14 0x21 0 0x01 0 0 0 [] [] ∷
    log_of 14 0x21 0 0 1 0 0 (0x20 ∷ []) [] ∷
    log_of 14 0x31 0 0 0 0 0 [] [] ∷
    log_of 15 0x01 0x0100 0 0 0 0 [] [] ∷
    log_of 15 0x01 0 0x02 0 0 0 [] [] ∷
    log_of 15 0x01 0 0 1 0 0 (0x20 ∷ []) [] ∷
    log_of 15 0x11 0 0 0 0 0 [] [] ∷ []

-- Flag 32 where a call has no data, and its want where calls 6 and 8 need it; data bytes without it; fewer bytes than the lengths say;
-- bits 6 and 7; T without flag 8; call 16.
unfoldable pub unused_flags : List (List ℕ)
unused_flags =
    log_of 1 0x21 0 0x03 0 0 0 [] [] ∷
    log_of 2 0x21 0 0x03 0 0 0 [] [] ∷
    log_of 4 0x21 0 0 0 0 0 [] [] ∷
    log_of 5 0x21 0 0 1 1 0 (0x20 ∷ 0x10 ∷ []) [] ∷
    log_of 7 0x21 0xf190 0 0 0 0 [] [] ∷
    log_of 9 0x21 0xff 0 0 0 0 [] [] ∷
    log_of 15 0x21 0xff 0 0 0 0 [] [] ∷
    log_of 11 0x21 0 0 1 1 0 (0x20 ∷ 0x10 ∷ []) [] ∷
    log_of 12 0x21 0 0 1 1 0 (0x20 ∷ 0x10 ∷ []) [] ∷
    log_of 6 0x01 0 0 1 1 0 (0x20 ∷ 0x10 ∷ []) [] ∷
    log_of 8 0x01 0xf190 0 0 0 0 [] [] ∷
    log_of 0 0x01 0x3f 0 0 0 0 (0xaa ∷ []) [] ∷
    log_of 5 0x01 0 0 1 1 0 (0x20 ∷ 0x10 ∷ 0xaa ∷ []) [] ∷
    log_of 5 0x01 0 0 2 1 0 (0x20 ∷ 0x10 ∷ []) [] ∷
    log_of 6 0x21 0 0 1 2 0 (0x20 ∷ 0x10 ∷ []) [] ∷
    log_of 14 0x41 0 0 0 0 0 [] [] ∷
    log_of 14 0x81 0 0 0 0 0 [] [] ∷
    log_of 4 0x01 0 0 0 0 1 [] [] ∷
    log_of 16 0x01 0 0 0 0 0 [] [] ∷
    -- An event with an unused field, read or not.
    log_of 4 0x01 0 0 0 0 0 [] (raw (entry 20 1 1 0) ∷ []) ∷
    log_of 4 0x01 0 0 0 0 0 [] (raw (entry 20 1 0 1) ∷ []) ∷
    log_of 4 0x01 0 0 0 0 0 [] (raw (entry 20 2 1 0) ∷ []) ∷
    log_of 4 0x01 0 0 0 0 0 [] (raw (entry 20 2 0 1) ∷ []) ∷
    log_of 4 0x01 0 0 0 0 0 [] (raw (entry 20 3 1 0) ∷ []) ∷
    log_of 4 0x01 0 0 0 0 0 [] (closes 20 ∷ raw (entry 20 1 0 1) ∷ []) ∷ []

-- Bytes of document 01's log put in the place of others: each by its index.
abbrev pub changed : List (ℕ × ℕ) → List ℕ → List ℕ
changed [] l = l
changed (c ∷ cs) l = changed cs (take c.0 l ++ (c.1 ∷ drop (c.0 + 1) l))

-- Version 1 and no other, the unused byte; "The areas follow in that order, no gaps": a byte before the events, before the replies, behind
-- them; the total is the number of bytes read.
unfoldable pub unsound_areas : List (List ℕ)
unsound_areas =
    changed ((1, 0) ∷ []) log ∷
    changed ((1, 2) ∷ []) log ∷
    changed ((0, 1) ∷ []) log ∷
    changed ((9, 1) ∷ []) log ∷
    changed ((13, 0) ∷ []) log ∷
    changed ((13, 0x25) ∷ []) log ∷
    changed ((17, 0x25) ∷ (21, 0x39) ∷ (23, 0x41) ∷ []) (take 36 log ++ (0 ∷ drop 36 log)) ∷
    changed ((21, 0x39) ∷ (23, 0x41) ∷ []) (take 56 log ++ (0 ∷ drop 56 log)) ∷
    changed ((23, 0x41) ∷ []) (log ++ (0 ∷ [])) ∷
    changed ((19, 0x07) ∷ []) log ∷
    changed ((15, 0x01) ∷ []) log ∷
    (log ++ (0 ∷ [])) ∷
    take 63 log ∷
    take 35 log ∷
    [] ∷ []

abbrev pub Sound : List LogRow → Type 0
Sound rows = map asks rows ≡ map wants rows

-- "Any other layout prints `badlog 0 0 0 -`"
abbrev pub AreBad : List (List ℕ) → Type 0
AreBad logs = map line_of logs ≡ map (λ l. ascii "badlog 0 0 0 -\n") logs

abbrev pub LogRows : Type 0
LogRows = Sound sound_logs × Sound refused_logs × AreBad unused_fields × AreBad unused_flags × AreBad unsound_areas
