-- Request Seven's log, version 2: the printed log, and lines that its rules give where they meet. Reads of F190, strict, P2 50, P2* 5000, unless said.
use Rattle.std.specs.Prelude.{ℕ, ◌+◌, ◌*◌, ◌≡◌, List, [], ◌∷◌, ◌++◌, map, false, length}
use Prim.Native.String.{String}
use Rattle.std.proofs.Math.Option.{none}
use Rattle.rules.specs.Bytes.{bytes_of, two}
use Rattle.rules.specs.Calls.{write_memory, given}
use Rattle.rules.specs.Lines.{ascii}
use Rattle.rules.specs.LogRows.{LogRow, log_row, Sound}
use Rattle.rules.specs.Logs.{line_of}

unfoldable pub log2 : List ℕ
log2 =
    0x00 ∷ 0x02 ∷ 0x07 ∷ 0x03 ∷ 0xf1 ∷ 0x90 ∷ 0x00 ∷ 0x00 ∷ 0x00 ∷ 0x07 ∷ 0xe8 ∷
    0x00 ∷ 0x00 ∷ 0x00 ∷ 0x25 ∷ 0x00 ∷ 0x03 ∷ 0x00 ∷ 0x25 ∷ 0x00 ∷ 0x0b ∷ 0x00 ∷ 0x49 ∷ 0x00 ∷ 0x54 ∷
    0x00 ∷ 0x00 ∷ 0x00 ∷ 0x32 ∷ 0x00 ∷ 0x00 ∷ 0x13 ∷ 0x88 ∷ 0x00 ∷ 0x00 ∷ 0x00 ∷ 0x00 ∷
    0x00 ∷ 0x00 ∷ 0x00 ∷ 0x14 ∷ 0x00 ∷ 0x00 ∷ 0x00 ∷ 0x00 ∷ 0x00 ∷ 0x03 ∷ 0x07 ∷ 0xe8 ∷
    0x00 ∷ 0x00 ∷ 0x00 ∷ 0x1e ∷ 0x00 ∷ 0x00 ∷ 0x00 ∷ 0x03 ∷ 0x00 ∷ 0x03 ∷ 0x07 ∷ 0xe9 ∷
    0x00 ∷ 0x00 ∷ 0x03 ∷ 0x84 ∷ 0x00 ∷ 0x00 ∷ 0x00 ∷ 0x06 ∷ 0x00 ∷ 0x05 ∷ 0x07 ∷ 0xe8 ∷
    0x7f ∷ 0x22 ∷ 0x78 ∷ 0x7f ∷ 0x22 ∷ 0x31 ∷ 0x62 ∷ 0xf1 ∷ 0x90 ∷ 0x41 ∷ 0x42 ∷ []

-- An event: time, kind, the length or number field of kinds 1 to 3, source, and a reply's bytes.
pub record Sent : Type 0 where
  pub time : ℕ
  pub kind : ℕ
  pub number : ℕ
  pub source : ℕ
  pub bytes : List ℕ

abbrev pub from : ℕ → ℕ → List ℕ → Sent
from source t bs = record { time = t; kind = 0; number = length bs; source = source; bytes = bs }

abbrev pub other : ℕ → ℕ → ℕ → ℕ → Sent
other source t k n = record { time = t; kind = k; number = n; source = source; bytes = [] }

abbrev pub reply_bytes : List Sent → List ℕ
reply_bytes [] = []
reply_bytes (s ∷ ss) = s.bytes ++ reply_bytes ss

-- Offsets of kinds other than 0 are 0.
abbrev pub offset_of : ℕ → Sent → ℕ
offset_of i s = elim s.bytes [ [] ↦ 0 | b ∷ bs ↦ i ]

abbrev pub addressed_events : ℕ → List Sent → List ℕ
addressed_events i [] = []
addressed_events i (s ∷ ss) =
    bytes_of 4 s.time ++ two s.kind ++ two (offset_of i s) ++ two s.number ++ two s.source ++ addressed_events (i + length s.bytes) ss

-- A log of version 2: flags, listening address, T and events.
abbrev pub addressed_log : ℕ → ℕ → ℕ → List Sent → List ℕ
addressed_log flags listens overall ss =
    let events = addressed_events 0 ss in
    let replies = reply_bytes ss in
    two 2 ++ (7 ∷ flags ∷ []) ++ two 0xf190 ++ (0 ∷ 0 ∷ 0 ∷ []) ++ two listens ++
    two 0 ++ two 37 ++ two (length ss) ++ two 37 ++ two (length replies) ++ two (37 + length events) ++ two (37 + length events + length replies) ++
    bytes_of 4 50 ++ bytes_of 4 5000 ++ bytes_of 4 overall ++ events ++ replies

abbrev pub good : List ℕ
good = 0x62 ∷ 0xf1 ∷ 0x90 ∷ 0x41 ∷ 0x42 ∷ []

abbrev pub hears : List Sent → String → List ℕ × String
hears ss gives = (addressed_log 3 0x7e8 0 ss, gives)

unfoldable pub lines : List (List ℕ × String)
lines =
    (log2, "positive 900 3 1 4142\n") ∷
    -- A reply from address 0 is foreign; listening to 0 hears address 0 only.
    hears (from 0 10 good ∷ []) "timeout 50 1 0 -\n" ∷
    (addressed_log 3 0 0 (from 0x7e8 10 good ∷ from 0 20 good ∷ []), "positive 20 2 0 4142\n") ∷
    (addressed_log 3 0xffff 0 (from 0xffff 10 good ∷ []), "positive 10 1 0 4142\n") ∷
    -- Read up to the deadline, and no further; not behind the settling event.
    hears (from 0x7e9 50 good ∷ []) "timeout 50 1 0 -\n" ∷
    hears (from 0x7e9 51 good ∷ []) "timeout 50 0 0 -\n" ∷
    hears (from 0x7e8 10 good ∷ from 0x7e9 10 good ∷ []) "positive 10 1 0 4142\n" ∷
    -- Its bytes are not looked at: a foreign notice starts no P2*, a foreign 7F alone is no deviation.
    hears (from 0x7e9 10 (0x7f ∷ 0x22 ∷ 0x78 ∷ []) ∷ from 0x7e8 60 good ∷ []) "timeout 50 1 0 -\n" ∷
    hears (from 0x7e9 10 (0x7f ∷ []) ∷ from 0x7e9 11 [] ∷ from 0x7e8 12 good ∷ []) "positive 12 3 0 4142\n" ∷
    -- Under T: counted up to T.
    (addressed_log 11 0x7e8 30 (from 0x7e9 20 good ∷ from 0x7e9 40 good ∷ []), "timeout 30 1 0 -\n") ∷
    -- A source on kinds 1 to 3 is refused, the one listened to also, in an event that is never read too; an unused field is badlog before.
    hears (other 0x7e8 10 2 0 ∷ []) "refused 0 0 0 0a\n" ∷
    hears (from 0x7e8 10 good ∷ other 0x7e9 20 1 0 ∷ []) "refused 0 0 0 0a\n" ∷
    hears (other 1 10 3 7 ∷ []) "refused 0 0 0 0a\n" ∷
    hears (other 0 10 3 7 ∷ []) "transport 10 1 0 0007\n" ∷
    hears (other 0x7e8 10 2 1 ∷ []) "badlog 0 0 0 -\n" ∷
    hears (other 0 10 4 0 ∷ []) "refused 0 0 0 0a\n" ∷
    -- A foreign reply keeps the limits: times, lent bytes.
    hears (from 0x7e8 10 good ∷ from 0x7e9 9 [] ∷ []) "refused 0 0 0 0a\n" ∷
    hears (other 0 10 0 1 ∷ []) "refused 0 0 0 0a\n" ∷
    -- No events and no replies, 37 bytes.
    hears [] "timeout 50 0 0 -\n" ∷ []

-- Arguments stand behind 37 bytes: address, size, data.
unfoldable pub writing : List LogRow
writing =
    log_row
    (0x00 ∷ 0x02 ∷ 0x06 ∷ 0x21 ∷ 0x00 ∷ 0x00 ∷ 0x00 ∷ 0x02 ∷ 0x01 ∷ 0x07 ∷ 0xe8 ∷
    0x00 ∷ 0x06 ∷ 0x00 ∷ 0x25 ∷ 0x00 ∷ 0x01 ∷ 0x00 ∷ 0x2b ∷ 0x00 ∷ 0x05 ∷ 0x00 ∷ 0x37 ∷ 0x00 ∷ 0x3c ∷
    0x00 ∷ 0x00 ∷ 0x00 ∷ 0x32 ∷ 0x00 ∷ 0x00 ∷ 0x13 ∷ 0x88 ∷ 0x00 ∷ 0x00 ∷ 0x00 ∷ 0x00 ∷
    0x20 ∷ 0x00 ∷ 0x03 ∷ 0xaa ∷ 0xbb ∷ 0xcc ∷
    0x00 ∷ 0x00 ∷ 0x00 ∷ 0x0a ∷ 0x00 ∷ 0x00 ∷ 0x00 ∷ 0x00 ∷ 0x00 ∷ 0x05 ∷ 0x07 ∷ 0xe8 ∷
    0x7d ∷ 0x12 ∷ 0x20 ∷ 0x00 ∷ 0x03 ∷ []) none false false
    (write_memory (given (0x20 ∷ 0x00 ∷ [])) (given (0x03 ∷ [])) (0xaa ∷ 0xbb ∷ 0xcc ∷ [])) "positive 10 1 0 12200003\n" ∷ []

abbrev pub Addresses : Type 0
Addresses = (map (λ p. line_of p.0) lines ≡ map (λ p. ascii p.1) lines) × Sound writing
