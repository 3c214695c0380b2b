-- Rows of stories: a log, and the lines that are told of it before `udslog`'s. They pin the words of every line: each kind of event, each judgement, each way that a call ends.
use Rattle.std.specs.Prelude.{ℕ, true, List, [], ◌∷◌, ◌++◌, map, ◌≡◌}
use Prim.Native.String.{String}
use Rattle.std.proofs.Math.Option.{none}
use Rattle.rules.specs.Addresses.{log2, from, addressed_log}
use Rattle.rules.specs.After.{service_checks}
use Rattle.rules.specs.Calls.{Call, session, read_memory, write_memory, routine, download, upload, transfer, fault_list, Field, given}
use Rattle.rules.specs.Examples.{says, idles, closes, breaks, raw, entry, log}
use Rattle.rules.specs.LogRows.{changed, log_of}
use Rattle.rules.specs.Lines.{ascii}
use Rattle.telling.specs.Checks.{told_of}
use Rattle.telling.specs.Telling.{telling}

pub record Row : Type 0 where
  pub log : List ℕ
  pub told : List String

abbrev pub row : List ℕ → List String → Row
row l told = record { log = l; told = told }

unfoldable pub waiting : List Row
waiting =
    row log
    ("0 ms  request 22 f1 90 sent, strict. The clock starts: deadline 50 ms." ∷
    "20 ms  reply 7f 22 78: wait (notice 1). A new clock starts: deadline 50 -> 5020 ms." ∷
    "900 ms  reply 62 f1 90 41 42: taken as positive (event 2). Call ends at 900 ms; deadline 5020 ms." ∷
    "Check, length 4 or more: passed." ∷
    "Check, length 3 or more: passed." ∷
    "Check, the identifier asked for: passed." ∷
    "The call ends at 900 ms. Events read: 2. Wait notices: 1." ∷ []) ∷
    row log2
    ("0 ms  request 22 f1 90 sent, strict. The clock starts: deadline 50 ms." ∷
    "20 ms  reply 7f 22 78: wait (notice 1). A new clock starts: deadline 50 -> 5020 ms." ∷
    "30 ms  foreign reply 7f 22 31: passed over (event 2). The clock runs on: deadline 5020 -> 5020 ms." ∷
    "900 ms  reply 62 f1 90 41 42: taken as positive (event 3). Call ends at 900 ms; deadline 5020 ms." ∷
    "Check, length 4 or more: passed." ∷
    "Check, length 3 or more: passed." ∷
    "Check, the identifier asked for: passed." ∷
    "The call ends at 900 ms. Events read: 3. Wait notices: 1." ∷ []) ∷
    row (log_of 7 3 0xf190 0 0 0 0 [] (idles 40 ∷ says 70 (0x62 ∷ 0xf1 ∷ 0x90 ∷ 0xaa ∷ []) ∷ []))
    ("0 ms  request 22 f1 90 sent, strict. The clock starts: deadline 50 ms." ∷
    "40 ms  idle: nothing was heard (event 1). The clock runs on: deadline 50 -> 50 ms." ∷
    "50 ms  deadline: no answer came in time. The call ends as timeout." ∷
    "70 ms  reply 62 f1 90 aa: never read." ∷
    "The call ends at 50 ms. Events read: 1. Wait notices: 0." ∷ []) ∷
    row (log_of 7 3 0xf190 0 0 0 0 [] (says 9 (0x7f ∷ 0x22 ∷ 0x31 ∷ []) ∷ []))
    ("0 ms  request 22 f1 90 sent, strict. The clock starts: deadline 50 ms." ∷
    "9 ms  reply 7f 22 31: refused by its code (event 1). Call ends at 9 ms; deadline 50 ms." ∷
    "The call ends at 9 ms. Events read: 1. Wait notices: 0." ∷ []) ∷
    row (log_of 7 3 0xf190 0 0 0 0 [] (closes 9 ∷ idles 9 ∷ []))
    ("0 ms  request 22 f1 90 sent, strict. The clock starts: deadline 50 ms." ∷
    "9 ms  end of stream: disconnected (event 1). Call ends at 9 ms; deadline 50 ms." ∷
    "9 ms  idle: never read." ∷
    "The call ends at 9 ms. Events read: 1. Wait notices: 0." ∷ []) ∷
    row (log_of 7 3 0xf190 0 0 0 0 [] (breaks 9 258 ∷ []))
    ("0 ms  request 22 f1 90 sent, strict. The clock starts: deadline 50 ms." ∷
    "9 ms  transport error 01 02: the transport failed (event 1). Call ends at 9 ms; deadline 50 ms." ∷
    "The call ends at 9 ms. Events read: 1. Wait notices: 0." ∷ []) ∷
    row (log_of 7 3 0xf190 0 0 0 0 [] (says 9 (0x63 ∷ 0xf1 ∷ 0x90 ∷ 0xaa ∷ []) ∷ []))
    ("0 ms  request 22 f1 90 sent, strict. The clock starts: deadline 50 ms." ∷
    "9 ms  reply 63 f1 90 aa: wrong first byte, deviation 1 (event 1). Call ends at 9 ms; deadline 50 ms." ∷
    "The call ends at 9 ms. Events read: 1. Wait notices: 0." ∷ []) ∷
    row (log_of 7 3 0xf190 0 0 0 0 [] (says 9 (0x7f ∷ 0x31 ∷ 0x78 ∷ []) ∷ []))
    ("0 ms  request 22 f1 90 sent, strict. The clock starts: deadline 50 ms." ∷
    "9 ms  reply 7f 31 78: wrong second byte, deviation 2 (event 1). Call ends at 9 ms; deadline 50 ms." ∷
    "The call ends at 9 ms. Events read: 1. Wait notices: 0." ∷ []) ∷ []

unfoldable pub judging : List Row
judging =
    row (log_of 7 3 0xf190 0 0 0 0 [] (says 9 (0x7f ∷ 0x22 ∷ []) ∷ []))
    ("0 ms  request 22 f1 90 sent, strict. The clock starts: deadline 50 ms." ∷
    "9 ms  reply 7f 22: wrong length, deviation 8 (event 1). Call ends at 9 ms; deadline 50 ms." ∷
    "The call ends at 9 ms. Events read: 1. Wait notices: 0." ∷ []) ∷
    row (log_of 7 2 0xf190 0 0 0 0 [] (says 9 ([]) ∷ []))
    ("0 ms  request 22 f1 90 sent, lenient. The clock starts: deadline 50 ms." ∷
    "9 ms  reply: it is too short to be read (event 1). Call ends at 9 ms; deadline 50 ms." ∷
    "The call ends at 9 ms. Events read: 1. Wait notices: 0." ∷ []) ∷
    row (log_of 7 3 0xf190 0 0 0 0 [] (says 9 (0x62 ∷ 0xf1 ∷ 0x91 ∷ 0xaa ∷ []) ∷ []))
    ("0 ms  request 22 f1 90 sent, strict. The clock starts: deadline 50 ms." ∷
    "9 ms  reply 62 f1 91 aa: taken as positive (event 1). Call ends at 9 ms; deadline 50 ms." ∷
    "Check, length 4 or more: passed." ∷
    "Check, length 3 or more: passed." ∷
    "Check, the identifier asked for: failed." ∷
    "The call ends at 9 ms. Events read: 1. Wait notices: 0." ∷ []) ∷
    row (log_of 7 2 0xf190 0 0 0 0 [] (says 9 (0x62 ∷ 0xf1 ∷ 0x91 ∷ 0xaa ∷ []) ∷ []))
    ("0 ms  request 22 f1 90 sent, lenient. The clock starts: deadline 50 ms." ∷
    "9 ms  reply 62 f1 91 aa: taken as positive (event 1). Call ends at 9 ms; deadline 50 ms." ∷
    "Check, the lengths that lenient needs: passed." ∷
    "The call ends at 9 ms. Events read: 1. Wait notices: 0." ∷ []) ∷
    row (log_of 7 2 0xf190 0 0 0 0 [] (says 9 (0x62 ∷ 0xf1 ∷ []) ∷ []))
    ("0 ms  request 22 f1 90 sent, lenient. The clock starts: deadline 50 ms." ∷
    "9 ms  reply 62 f1: taken as positive (event 1). Call ends at 9 ms; deadline 50 ms." ∷
    "Check, the lengths that lenient needs: failed." ∷
    "The call ends at 9 ms. Events read: 1. Wait notices: 0." ∷ []) ∷
    row (log_of 7 11 0xf190 0 0 0 899 [] (says 20 (0x7f ∷ 0x22 ∷ 0x78 ∷ []) ∷ says 900 (0x62 ∷ 0xf1 ∷ 0x90 ∷ 0xaa ∷ []) ∷ []))
    ("0 ms  request 22 f1 90 sent, strict. The clock starts: deadline 50 ms." ∷
    "20 ms  reply 7f 22 78: wait (notice 1). A new clock starts: deadline 50 -> 5020 ms." ∷
    "899 ms  the overall time is up. The call ends as timeout." ∷
    "900 ms  reply 62 f1 90 aa: never read." ∷
    "The call ends at 899 ms. Events read: 1. Wait notices: 1." ∷ []) ∷
    row (log_of 7 3 0xf190 0 0 0 0 [] (says 5 (0x62 ∷ 0xf1 ∷ 0x90 ∷ 0x01 ∷ 0x02 ∷ 0x03 ∷ 0x04 ∷ 0x05 ∷ 0x06 ∷ 0x07 ∷ 0x08 ∷ []) ∷ []))
    ("0 ms  request 22 f1 90 sent, strict. The clock starts: deadline 50 ms." ∷
    "5 ms  reply 62 f1 90 01 02 03 04 05 .. (11 bytes): taken as positive (event 1). Call ends at 5 ms; deadline 50 ms." ∷
    "Check, length 4 or more: passed." ∷
    "Check, length 3 or more: passed." ∷
    "Check, the identifier asked for: passed." ∷
    "The call ends at 5 ms. Events read: 1. Wait notices: 0." ∷ []) ∷
    row (log_of 2 3 0 0x81 0 0 0 [] ([]))
    ("0 ms  request 11 81 sent, strict, silence asked for. The clock starts: deadline 50 ms." ∷
    "50 ms  deadline: no answer came in time, as was asked for. The call ends as suppressed." ∷
    "The call ends at 50 ms. Events read: 0. Wait notices: 0." ∷ []) ∷
    row (log_of 2 3 0 0x81 0 0 0 [] (says 10 (0x51 ∷ 0x01 ∷ []) ∷ []))
    ("0 ms  request 11 81 sent, strict, silence asked for. The clock starts: deadline 50 ms." ∷
    "10 ms  reply 51 01: silence asked for, deviation 4 (event 1). Call ends at 10 ms; deadline 50 ms." ∷
    "The call ends at 10 ms. Events read: 1. Wait notices: 0." ∷ []) ∷ []

unfoldable pub ending : List Row
ending =
    row (log_of 2 3 0 0x81 0 0 0 [] (says 10 (0x51 ∷ 0x02 ∷ []) ∷ []))
    ("0 ms  request 11 81 sent, strict, silence asked for. The clock starts: deadline 50 ms." ∷
    "10 ms  reply 51 02: wrong sub-function, deviation 3 (event 1). Call ends at 10 ms; deadline 50 ms." ∷
    "The call ends at 10 ms. Events read: 1. Wait notices: 0." ∷ []) ∷
    row (log_of 2 3 0 0x81 0 0 0 [] (says 10 (0x7f ∷ 0x11 ∷ 0x22 ∷ []) ∷ []))
    ("0 ms  request 11 81 sent, strict, silence asked for. The clock starts: deadline 50 ms." ∷
    "10 ms  reply 7f 11 22: refused by its code (event 1). Call is to wait until 50 ms; deadline 50 ms." ∷
    "The call ends at 50 ms. Events read: 1. Wait notices: 0." ∷ []) ∷
    row (log_of 2 11 0 0x81 0 0 30 [] (says 10 (0x7f ∷ 0x11 ∷ 0x22 ∷ []) ∷ []))
    ("0 ms  request 11 81 sent, strict, silence asked for. The clock starts: deadline 50 ms." ∷
    "10 ms  reply 7f 11 22: refused by its code (event 1). Call is to wait until 50 ms; deadline 50 ms." ∷
    "30 ms  the overall time is up. The call ends as timeout." ∷
    "The call ends at 30 ms. Events read: 1. Wait notices: 0." ∷ []) ∷
    row (log_of 3 3 0 2 0 0 0 [] [])
    ("The call is not made: what it asks for is not allowed, refusal 1." ∷ []) ∷
    row (log_of 4 3 0 0 0 0 0 [] (raw (entry 20 4 0 0) ∷ []))
    ("The call is not made: its list of events breaks a limit, refusal 10." ∷ []) ∷
    row (log_of 4 3 0 0 0 0 0 [] (idles 20 ∷ idles 19 ∷ []))
    ("The call is not made: its list of events breaks a limit, refusal 10." ∷ []) ∷
    row []
    ("This is no log: the file has 0 bytes and should have 36 or more." ∷ []) ∷ []

-- What a check throws away was taken as positive, and nothing more. A lenient number that is too large failed no length.
unfoldable pub thrown : List Row
thrown =
    row (log_of 15 3 8 0 0 0 0 [] (says 12 (0x59 ∷ 0x02 ∷ 0xff ∷ 0x01 ∷ 0x02 ∷ 0x03 ∷ []) ∷ []))
    ("0 ms  request 19 02 08 sent, strict. The clock starts: deadline 50 ms." ∷
    "12 ms  reply 59 02 ff 01 02 03: taken as positive (event 1). Call ends at 12 ms; deadline 50 ms." ∷
    "Check, a length of 3 plus a multiple of 4: failed." ∷
    "The call ends at 12 ms. Events read: 1. Wait notices: 0." ∷ []) ∷
    row (log_of 11 2 0 0 2 1 0 (0x10 ∷ 0x00 ∷ 0x02 ∷ []) (says 10 (0x74 ∷ 0x90 ∷ 0x01 ∷ 0 ∷ 0 ∷ 0 ∷ 0 ∷ 0 ∷ 0 ∷ 0 ∷ 0 ∷ []) ∷ []))
    ("0 ms  request 34 00 12 10 00 02 sent, lenient. The clock starts: deadline 50 ms." ∷
    "10 ms  reply 74 90 01 00 00 00 00 00 .. (11 bytes): taken as positive (event 1). Call ends at 10 ms; deadline 50 ms." ∷
    "Check, the lengths that lenient needs: passed." ∷
    "Check, a block length of at most 64 bits: failed." ∷
    "The call ends at 10 ms. Events read: 1. Wait notices: 0." ∷ []) ∷
    row (log_of 12 2 0 0 2 1 0 (0x10 ∷ 0x00 ∷ 0x02 ∷ []) (says 10 (0x75 ∷ 0x90 ∷ 0x01 ∷ []) ∷ []))
    ("0 ms  request 35 00 12 10 00 02 sent, lenient. The clock starts: deadline 50 ms." ∷
    "10 ms  reply 75 90 01: taken as positive (event 1). Call ends at 10 ms; deadline 50 ms." ∷
    "Check, the lengths that lenient needs: failed." ∷
    "The call ends at 10 ms. Events read: 1. Wait notices: 0." ∷ []) ∷ []

-- A new clock that is shorter than the one before, by P2* of 5; a reply behind the end of the stream; a foreign reply in a silence that was asked for.
unfoldable pub seldom : List Row
seldom =
    row (changed ((30, 0) ∷ (31, 5) ∷ []) (log_of 7 3 0xf190 0 0 0 0 [] (says 20 (0x7f ∷ 0x22 ∷ 0x78 ∷ []) ∷ [])))
    ("0 ms  request 22 f1 90 sent, strict. The clock starts: deadline 50 ms." ∷
    "20 ms  reply 7f 22 78: wait (notice 1). A new clock starts: deadline 50 -> 25 ms." ∷
    "25 ms  deadline: no answer came in time. The call ends as timeout." ∷
    "The call ends at 25 ms. Events read: 1. Wait notices: 1." ∷ []) ∷
    row (log_of 7 3 0xf190 0 0 0 0 [] (closes 9 ∷ says 10 (0x62 ∷ 0xf1 ∷ 0x90 ∷ 0xaa ∷ []) ∷ []))
    ("0 ms  request 22 f1 90 sent, strict. The clock starts: deadline 50 ms." ∷
    "9 ms  end of stream: disconnected (event 1). Call ends at 9 ms; deadline 50 ms." ∷
    "10 ms  reply 62 f1 90 aa: never read." ∷
    "The call ends at 9 ms. Events read: 1. Wait notices: 0." ∷ []) ∷
    row (changed ((2, 2) ∷ (4, 0) ∷ (5, 0) ∷ (6, 0x81) ∷ []) (addressed_log 3 5 0 (from 7 30 (0x51 ∷ 0x01 ∷ []) ∷ [])))
    ("0 ms  request 11 81 sent, strict, silence asked for. The clock starts: deadline 50 ms." ∷
    "30 ms  foreign reply 51 01: passed over (event 1). The clock runs on: deadline 50 -> 50 ms." ∷
    "50 ms  deadline: no answer came in time, as was asked for. The call ends as suppressed." ∷
    "The call ends at 50 ms. Events read: 1. Wait notices: 0." ∷ []) ∷ []

abbrev pub lines : List String → List ℕ
lines [] = []
lines (s ∷ ss) = ascii s ++ (10 ∷ lines ss)

abbrev pub Hold : List Row → Type 0
Hold rows = map (λ r. telling r.log) rows ≡ map (λ r. lines r.told) rows

-- Checks of a reply in strict mode: a call, the reply, and its lines. Each check that document 01 has is passed in one row and fails in another.
pub record CheckRow : Type 0 where
  pub call : Call
  pub reply : List ℕ
  pub told : List String

abbrev pub checks : Call → List ℕ → List String → CheckRow
checks c r told = record { call = c; reply = r; told = told }

abbrev pub address : Field
address = given (0x10 ∷ 0x00 ∷ [])

abbrev pub two : Field
two = given (0x02 ∷ [])

unfoldable pub checking : List CheckRow
checking =
    checks (session 1) (0x50 ∷ 0x01 ∷ 0x00 ∷ 0x32 ∷ 0x01 ∷ 0xf4 ∷ []) ("Check, length 6: passed." ∷ []) ∷
    checks (session 1) (0x50 ∷ 0x01 ∷ []) ("Check, length 6: failed." ∷ []) ∷
    checks (read_memory address two) (0x63 ∷ 0xaa ∷ 0xbb ∷ []) ("Check, as many bytes as asked for: passed." ∷ "Check, length 2 or more: passed." ∷ []) ∷
    checks (read_memory address two) (0x63 ∷ 0xaa ∷ []) ("Check, as many bytes as asked for: failed." ∷ []) ∷
    checks (write_memory address two []) (0x7d ∷ 0x12 ∷ 0x10 ∷ 0x00 ∷ 0x02 ∷ [])
    ("Check, length 5: passed." ∷
    "Check, the format byte sent: passed." ∷
    "Check, the address sent: passed." ∷
    "Check, the size sent: passed." ∷ []) ∷
    checks (write_memory address two []) (0x7d ∷ 0x21 ∷ 0x10 ∷ 0x00 ∷ 0x02 ∷ [])
    ("Check, length 5: passed." ∷ "Check, the format byte sent: failed." ∷ []) ∷
    checks (write_memory address two []) (0x7d ∷ 0x12 ∷ 0x10 ∷ 0x01 ∷ 0x02 ∷ [])
    ("Check, length 5: passed." ∷ "Check, the format byte sent: passed." ∷ "Check, the address sent: failed." ∷ []) ∷
    checks (write_memory address two []) (0x7d ∷ 0x12 ∷ 0x10 ∷ 0x00 ∷ 0x03 ∷ [])
    ("Check, length 5: passed." ∷
    "Check, the format byte sent: passed." ∷
    "Check, the address sent: passed." ∷
    "Check, the size sent: failed." ∷ []) ∷
    checks (routine 1 0x0203 none) (0x71 ∷ 0x01 ∷ 0x02 ∷ 0x03 ∷ [])
    ("Check, length 4 or more: passed." ∷ "Check, the routine asked for: passed." ∷ []) ∷
    checks (routine 1 0x0203 none) (0x71 ∷ 0x01 ∷ 0x02 ∷ 0x04 ∷ [])
    ("Check, length 4 or more: passed." ∷ "Check, the routine asked for: failed." ∷ []) ∷
    checks (download 0 0 address two) (0x74 ∷ 0x20 ∷ 0x0f ∷ 0xfa ∷ [])
    ("Check, length 2 or more: passed." ∷
    "Check, a low half byte of 0: passed." ∷
    "Check, a block length of one byte or more: passed." ∷
    "Check, length 4: passed." ∷
    "Check, a block length of 3 or more: passed." ∷
    "Check, a block length of at most 64 bits: passed." ∷ []) ∷
    checks (download 0 0 address two) (0x74 ∷ 0x21 ∷ 0x0f ∷ 0xfa ∷ [])
    ("Check, length 2 or more: passed." ∷ "Check, a low half byte of 0: failed." ∷ []) ∷
    checks (upload 0 0 address two) (0x75 ∷ 0x00 ∷ [])
    ("Check, length 2 or more: passed." ∷
    "Check, a low half byte of 0: passed." ∷
    "Check, a block length of one byte or more: failed." ∷ []) ∷
    checks (upload 0 0 address two) (0x75 ∷ 0x10 ∷ 0x02 ∷ [])
    ("Check, length 2 or more: passed." ∷
    "Check, a low half byte of 0: passed." ∷
    "Check, a block length of one byte or more: passed." ∷
    "Check, length 3: passed." ∷
    "Check, a block length of 3 or more: failed." ∷ []) ∷
    checks (download 0 0 address two) (0x74 ∷ 0x90 ∷ 0x01 ∷ 0 ∷ 0 ∷ 0 ∷ 0 ∷ 0 ∷ 0 ∷ 0 ∷ 0 ∷ [])
    ("Check, length 2 or more: passed." ∷
    "Check, a low half byte of 0: passed." ∷
    "Check, a block length of one byte or more: passed." ∷
    "Check, length 11: passed." ∷
    "Check, a block length of 3 or more: passed." ∷
    "Check, a block length of at most 64 bits: failed." ∷ []) ∷
    checks (transfer 1 none) (0x76 ∷ 0x01 ∷ 0xaa ∷ [])
    ("Check, length 3 or more: passed." ∷ "Check, length 2 or more: passed." ∷ "Check, the counter sent: passed." ∷ []) ∷
    checks (transfer 1 none) (0x76 ∷ 0x02 ∷ 0xaa ∷ [])
    ("Check, length 3 or more: passed." ∷ "Check, length 2 or more: passed." ∷ "Check, the counter sent: failed." ∷ []) ∷
    checks (fault_list 8) (0x59 ∷ 0x02 ∷ []) ("Check, a length of 3 plus a multiple of 4: failed." ∷ []) ∷
    checks (fault_list 8) (0x59 ∷ 0x02 ∷ 0xff ∷ []) ("Check, a length of 3 plus a multiple of 4: passed." ∷ "Check, length 3 or more: passed." ∷ []) ∷
    checks (fault_list 8) (0x59 ∷ 0x02 ∷ 0xff ∷ 0x01 ∷ []) ("Check, a length of 3 plus a multiple of 4: failed." ∷ []) ∷
    checks (fault_list 8) (0x59 ∷ 0x02 ∷ 0xff ∷ 0x01 ∷ 0x02 ∷ 0x03 ∷ []) ("Check, a length of 3 plus a multiple of 4: failed." ∷ []) ∷
    checks (fault_list 8) (0x59 ∷ 0x02 ∷ 0xff ∷ 0x4a ∷ 0x01 ∷ 0x13 ∷ 0x09 ∷ 0x4a ∷ 0x02 ∷ 0x47 ∷ []) ("Check, a length of 3 plus a multiple of 4: failed." ∷ []) ∷ []

abbrev pub Checked : List CheckRow → Type 0
Checked rows = map (λ x. told_of x.call (service_checks true x.call x.reply)) rows ≡ map (λ x. lines x.told) rows

abbrev pub Rows : Type 0
Rows = Hold waiting × Hold judging × Hold ending × Hold thrown × Hold seldom × Checked checking
