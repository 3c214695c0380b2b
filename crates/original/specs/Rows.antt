-- What the Rust gives in document 01's ten examples, and where it panics or fails before sending: its own results, with their payloads.
use Rattle.std.specs.Prelude.{ℕ, Bool, true, false, ◌≡◌, List, [], ◌∷◌, map, replicate}
use Rattle.std.proofs.Math.Option.{none, some}
use Rattle.rules.specs.Calls.{Call, given, alfid, request, reset, security, tester_present, read_memory, read_identifier, download}
use Rattle.rules.specs.Client.{events_in}
use Rattle.rules.specs.Examples.{Said, says, lent, setting, usual, memory_of_none, load}
use Rattle.rules.specs.Settings.{Setting}
use Rattle.original.specs.Rust.{World, world, Run, ok, err, panics}
use Rattle.original.specs.Errors.{Error, Timeout, Deviation, InvalidRequestServiceId, UnexpectedPositiveResponse, InvalidLength}
use Rattle.original.specs.Errors.{InvalidMaxNumberOfBlockLength, InvalidMemoryRecordLength, InvalidCompressionMethod, InvalidMemoryValueWidth}
use Rattle.original.specs.Errors.{MemoryValueOverflow, BlockLengthOverflow, NegativeResponse}
use Rattle.original.specs.Shown.{Given, bytes, number, invoke}
use Rattle.original.specs.Demand2.{config_of}

pub record Row : Type 0 where
  pub strict : Bool
  pub setting : Setting
  pub call : Call
  pub said : List Said
  pub gives : Run Error Given

abbrev pub row : Bool → Setting → Call → List Said → Run Error Given → Row
row strict w c ss g = record { strict = strict; setting = w; call = c; said = ss; gives = g }

-- At this time, with this sent; P2 and P2* as they were.
abbrev pub at : ℕ → List ℕ → World
at t sent = world t (sent ∷ []) (record { p2 = 50; star = 5000 })

abbrev pub unsent : World
unsent = world 0 [] (record { p2 = 50; star = 5000 })

abbrev pub hoist : Setting → ℕ → Run Error Given → Row
hoist w t g = row true w (read_identifier 0xf190) (says 20 (0x7f ∷ 0x22 ∷ 0x78 ∷ []) ∷ says t (0x62 ∷ 0xf1 ∷ 0x90 ∷ 0x41 ∷ 0x42 ∷ []) ∷ []) g

abbrev pub one : Bool → Call → List ℕ → Run Error Given → Row
one strict c r g = row strict usual c (says 10 r ∷ []) g

abbrev pub f190 : List ℕ
f190 = 0x22 ∷ 0xf1 ∷ 0x90 ∷ []

abbrev pub memory : List ℕ
memory = 0x23 ∷ 0x12 ∷ 0x20 ∷ 0x00 ∷ 0x00 ∷ []

abbrev pub loading : List ℕ
loading = 0x34 ∷ 0x00 ∷ 0x22 ∷ 0x20 ∷ 0x00 ∷ 0x10 ∷ 0x00 ∷ []

unfoldable pub rows : List Row
rows =
    hoist usual 900 (ok (bytes (0x41 ∷ 0x42 ∷ [])) (at 900 f190)) ∷
    hoist usual 5020 (ok (bytes (0x41 ∷ 0x42 ∷ [])) (at 5020 f190)) ∷
    hoist usual 5021 (err Timeout (at 5020 f190)) ∷
    hoist (setting (some 900) false) 900 (ok (bytes (0x41 ∷ 0x42 ∷ [])) (at 900 f190)) ∷
    hoist (setting (some 899) false) 900 (err Timeout (at 899 f190)) ∷
    row true usual tester_present [] (err Timeout (at 50 (0x3e ∷ 0x00 ∷ []))) ∷
    row true (setting none true) tester_present [] (ok (bytes []) (at 50 (0x3e ∷ 0x80 ∷ []))) ∷
    one true (reset 0x81) (0x51 ∷ 0x01 ∷ []) (err (Deviation UnexpectedPositiveResponse (0x51 ∷ 0x01 ∷ [])) (at 10 (0x11 ∷ 0x81 ∷ []))) ∷
    one false (reset 0x81) (0x51 ∷ 0x01 ∷ []) (ok (bytes []) (at 50 (0x11 ∷ 0x81 ∷ []))) ∷
    one true (reset 0x81) (0x7f ∷ 0x11 ∷ 0x22 ∷ []) (err (NegativeResponse 0x22) (at 50 (0x11 ∷ 0x81 ∷ []))) ∷
    one true (read_identifier 0xf190) (0x7f ∷ 0x31 ∷ 0x78 ∷ [])
    (err (Deviation (InvalidRequestServiceId 0x22 0x31) (0x7f ∷ 0x31 ∷ 0x78 ∷ [])) (at 10 f190)) ∷
    one false (read_identifier 0xf190) (0x7f ∷ 0x31 ∷ 0x78 ∷ []) (err Timeout (at 5010 f190)) ∷
    one true memory_of_none (0x63 ∷ []) (err (Deviation (InvalidLength 2 none) (0x63 ∷ [])) (at 10 memory)) ∷
    one true memory_of_none (0x63 ∷ 0xaa ∷ []) (err (Deviation (InvalidMemoryRecordLength 0 1) (0x63 ∷ 0xaa ∷ [])) (at 10 memory)) ∷
    one true load (0x74 ∷ 0x20 ∷ 0x0f ∷ 0xfa ∷ []) (ok (number 4090) (at 10 loading)) ∷
    one true load (0x74 ∷ 0x10 ∷ 0x02 ∷ []) (err (Deviation (InvalidMaxNumberOfBlockLength 2) (0x74 ∷ 0x10 ∷ 0x02 ∷ [])) (at 10 loading)) ∷
    one true load (0x74 ∷ 0x90 ∷ 0x01 ∷ replicate 8 0)
    (err (BlockLengthOverflow 18446744073709551616 (0x74 ∷ 0x90 ∷ 0x01 ∷ replicate 8 0)) (at 10 loading)) ∷
    one true (request 0x3f none none) (0x7f ∷ 0x01 ∷ []) (err (Deviation (InvalidLength 3 (some 3)) (0x7f ∷ 0x01 ∷ [])) (at 10 (0x3f ∷ []))) ∷
    -- Before sending: a key without data, an address of no bytes, a method above 15, a width of 9, a value too wide.
    one true (security 2 none) [] (panics unsent) ∷
    one true (read_memory (given []) (given (0x01 ∷ []))) [] (panics unsent) ∷
    one true (download 16 16 (given []) (given [])) [] (err (InvalidCompressionMethod 16) unsent) ∷
    one true (read_memory (alfid 0x2000 9 false) (alfid 1 1 false)) [] (err (InvalidMemoryValueWidth 9) unsent) ∷
    one true (read_memory (alfid 0x2000 1 false) (alfid 1 0 false)) [] (err (MemoryValueOverflow 0x2000 1) unsent) ∷ []

abbrev pub ran : Row → Run Error Given
ran r = invoke (config_of r.strict r.setting) (events_in (lent r.said)) r.setting.quiet r.call unsent

abbrev pub Rows : Type 0
Rows = map ran rows ≡ map (λ r. r.gives) rows
