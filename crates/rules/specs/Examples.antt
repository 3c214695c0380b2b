-- Document 01, "Proved examples, strict with 50 and 5000 unless said": one table, and one statement about it.
use Rattle.std.specs.Prelude.{ℕ, ◌+◌, Bool, true, false, ◌≡◌, List, [], ◌∷◌, ◌++◌, map, length, drop, replicate}
use Rattle.std.proofs.Math.Option.{Option, none, some}
use Rattle.rules.specs.Answers.{part, deviation, deviation8, overflow, Outcome, positive, suppressed, negative, timeout, fault}
use Rattle.rules.specs.Bytes.{bytes_of, two}
use Rattle.rules.specs.Calls.{Call, request, reset, tester_present, read_memory, read_identifier, download, given, request_of}
use Rattle.rules.specs.Client.{Result, call}
use Rattle.rules.specs.Events.{plain}
use Rattle.rules.specs.Lines.{ascii}
use Rattle.rules.specs.Logs.{line_of}
use Rattle.rules.specs.Settings.{Setting, Lent}

-- What stands in an event list: a reply, an idle, an end, an error with its number, each with its time; or bytes just as they are.
pub data Said : Type 0 where
  says : ℕ → List ℕ → Said
  idles : ℕ → Said
  closes : ℕ → Said
  breaks : ℕ → ℕ → Said
  raw : List ℕ → Said

abbrev pub bytes_in : Said → List ℕ
bytes_in (says t r) = r
bytes_in (idles t) = []
bytes_in (closes t) = []
bytes_in (breaks t n) = []
bytes_in (raw bs) = []

abbrev pub joined : List Said → List ℕ
joined [] = []
joined (s ∷ ss) = bytes_in s ++ joined ss

-- An event, ten bytes: time, kind, offset, length.
abbrev pub entry : ℕ → ℕ → ℕ → ℕ → List ℕ
entry t kind offset size = bytes_of 4 t ++ two kind ++ two offset ++ two size

-- The next reply stands at index i of the reply bytes.
abbrev pub entry_of : ℕ → Said → List ℕ
entry_of i (says t r) = entry t 0 i (length r)
entry_of i (idles t) = entry t 1 0 0
entry_of i (closes t) = entry t 2 0 0
entry_of i (breaks t n) = entry t 3 0 n
entry_of i (raw bs) = bs

abbrev pub event_bytes : ℕ → List Said → List ℕ
event_bytes i [] = []
event_bytes i (s ∷ ss) = entry_of i s ++ event_bytes (i + length (bytes_in s)) ss

-- The request buffer before the call.
abbrev pub blank : List ℕ
blank = replicate 64 0xee

abbrev pub lent : List Said → Lent
lent ss = record { buffer = blank; form = plain; events = event_bytes 0 ss; replies = joined ss; listens = 0 }

-- P2 50 and P2* 5000, the overall timeout as given, server timing on.
abbrev pub setting : Option ℕ → Bool → Setting
setting overall quiet = record { timing = record { p2 = 50; star = 5000 }; overall = overall; limit = none; server_timing = true; quiet = quiet }

-- An answer in document 01's values: outcome, finishing time, events read, notices; and the number of calls 11 and 12.
pub record Gives : Type 0 where
  pub outcome : Outcome
  pub time : ℕ
  pub events : ℕ
  pub notices : ℕ
  pub number : ℕ

abbrev pub gives : Outcome → ℕ → ℕ → ℕ → ℕ → Gives
gives o t e n v = record { outcome = o; time = t; events = e; notices = n; number = v }

abbrev pub told : Result → Gives
told r = gives r.answer.outcome r.answer.time r.answer.events r.answer.notices r.number

pub record Example : Type 0 where
  pub strict : Bool
  pub setting : Setting
  pub call : Call
  pub said : List Said
  pub gives : Gives
  pub timing : ℕ × ℕ
  pub sent : List ℕ

-- Besides the answer: the session's timing afterwards, and what is written to the front of the request buffer.
abbrev pub whole : Bool → Setting → Call → List Said → Gives → ℕ × ℕ → List ℕ → Example
whole strict w c ss g t sent = record { strict = strict; setting = w; call = c; said = ss; gives = g; timing = t; sent = sent }

-- A row that says nothing of these: the timing stays, the request is written.
abbrev pub row : Bool → Setting → Call → List Said → Gives → Example
row strict w c ss g = whole strict w c ss g (50, 5000) (request_of w.quiet c)

-- What a row runs to, and what it says: the answer, the timing, the whole buffer.
abbrev pub runs : Example → Gives × (ℕ × ℕ) × List ℕ
runs e =
    let r = call e.strict e.setting e.call (lent e.said) in
    (told r, (r.timing.p2, r.timing.star), r.buffer)

abbrev pub tells : Example → Gives × (ℕ × ℕ) × List ℕ
tells e = (e.gives, e.timing, e.sent ++ drop (length e.sent) blank)

abbrev pub usual : Setting
usual = setting none false

-- Examples 1 to 3: the log's two replies, the second at time t.
abbrev pub hoist : Setting → ℕ → Gives → Example
hoist w t g = row true w (read_identifier 0xf190) (says 20 (0x7f ∷ 0x22 ∷ 0x78 ∷ []) ∷ says t (0x62 ∷ 0xf1 ∷ 0x90 ∷ 0x41 ∷ 0x42 ∷ []) ∷ []) g

-- Examples 5 to 10: one reply, at time 10.
abbrev pub one : Bool → Call → List ℕ → Gives → Example
one strict c r g = row strict usual c (says 10 r ∷ []) g

abbrev pub memory_of_none : Call
memory_of_none = read_memory (given (0x20 ∷ 0x00 ∷ [])) (given (0x00 ∷ []))

abbrev pub load : Call
load = download 0 0 (given (0x20 ∷ 0x00 ∷ [])) (given (0x10 ∷ 0x00 ∷ []))

unfoldable pub examples : List Example
examples =
    -- 1. "The log above."
    hoist usual 900 (gives (positive (part 6 (0x41 ∷ 0x42 ∷ []))) 900 2 1 0) ∷
    -- 2. "Its second reply at 5020: positive; at 5021: timeout at 5020."
    hoist usual 5020 (gives (positive (part 6 (0x41 ∷ 0x42 ∷ []))) 5020 2 1 0) ∷
    hoist usual 5021 (gives timeout 5020 1 1 0) ∷
    -- 3. "T = 900: positive; 899: timeout at 899."
    hoist (setting (some 900) false) 900 (gives (positive (part 6 (0x41 ∷ 0x42 ∷ []))) 900 2 1 0) ∷
    hoist (setting (some 899) false) 900 (gives timeout 899 1 1 0) ∷
    -- 4. "Tester present, no events: timeout at 50; suppressed: suppressed at 50."
    row true usual tester_present [] (gives timeout 50 0 0 0) ∷
    row true (setting none true) tester_present [] (gives suppressed 50 0 0 0) ∷
    -- 5. "Reset 81, reply 51 01 at 10: deviation 4 at 10; lenient: positive at 50."
    one true (reset 0x81) (0x51 ∷ 0x01 ∷ []) (gives (fault (deviation 4)) 10 1 0 0) ∷
    one false (reset 0x81) (0x51 ∷ 0x01 ∷ []) (gives (positive (part 2 [])) 50 1 0 0) ∷
    -- 6. "Reset 81, 7F 11 22 at 10: negative at 50."
    one true (reset 0x81) (0x7f ∷ 0x11 ∷ 0x22 ∷ []) (gives (negative 0x22) 50 1 0 0) ∷
    -- 7. "Read F190, 7F 31 78: deviation 2; lenient then silence: timeout 5000 after it."
    one true (read_identifier 0xf190) (0x7f ∷ 0x31 ∷ 0x78 ∷ []) (gives (fault (deviation 2)) 10 1 0 0) ∷
    one false (read_identifier 0xf190) (0x7f ∷ 0x31 ∷ 0x78 ∷ []) (gives timeout 5010 1 1 0) ∷
    -- 8. "Read memory, size 00, reply 63: deviation 8 (2, none); 63 AA: deviation 15."
    one true memory_of_none (0x63 ∷ []) (gives (fault (deviation8 2 none)) 10 1 0 0) ∷
    one true memory_of_none (0x63 ∷ 0xaa ∷ []) (gives (fault (deviation 15)) 10 1 0 0) ∷
    -- 9. "Download replies 74 20 0F FA: 4090; 74 10 02: deviation 11; 74 90 01 and eight 00: overflow."
    one true load (0x74 ∷ 0x20 ∷ 0x0f ∷ 0xfa ∷ []) (gives (positive (part 2 (0x0f ∷ 0xfa ∷ []))) 10 1 0 4090) ∷
    one true load (0x74 ∷ 0x10 ∷ 0x02 ∷ []) (gives (fault (deviation 11)) 10 1 0 0) ∷
    one true load (0x74 ∷ 0x90 ∷ 0x01 ∷ replicate 8 0) (gives (fault overflow) 10 1 0 0) ∷
    -- 10. "Call 0, SID 3F, reply 7F 01: deviation 8 (3, 3)."
    one true (request 0x3f none none) (0x7f ∷ 0x01 ∷ []) (gives (fault (deviation8 3 (some 3))) 10 1 0 0) ∷ []

-- The input that document 01 prints, and its line.
unfoldable pub log : List ℕ
log =
    0x00 ∷ 0x01 ∷ 0x07 ∷ 0x03 ∷ 0xf1 ∷ 0x90 ∷ 0x00 ∷ 0x00 ∷ 0x00 ∷ 0x00 ∷
    0x00 ∷ 0x00 ∷ 0x00 ∷ 0x24 ∷ 0x00 ∷ 0x02 ∷ 0x00 ∷ 0x24 ∷ 0x00 ∷ 0x08 ∷ 0x00 ∷ 0x38 ∷ 0x00 ∷ 0x40 ∷
    0x00 ∷ 0x00 ∷ 0x00 ∷ 0x32 ∷ 0x00 ∷ 0x00 ∷ 0x13 ∷ 0x88 ∷ 0x00 ∷ 0x00 ∷ 0x00 ∷ 0x00 ∷
    0x00 ∷ 0x00 ∷ 0x00 ∷ 0x14 ∷ 0x00 ∷ 0x00 ∷ 0x00 ∷ 0x00 ∷ 0x00 ∷ 0x03 ∷
    0x00 ∷ 0x00 ∷ 0x03 ∷ 0x84 ∷ 0x00 ∷ 0x00 ∷ 0x00 ∷ 0x03 ∷ 0x00 ∷ 0x05 ∷
    0x7f ∷ 0x22 ∷ 0x78 ∷ 0x62 ∷ 0xf1 ∷ 0x90 ∷ 0x41 ∷ 0x42 ∷ []

abbrev pub Examples : Type 0
Examples =
    (line_of log ≡ ascii "positive 900 2 1 4142\n") ×
    (map runs examples ≡ map tells examples)
