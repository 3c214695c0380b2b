-- Document 01, "The calls": the table's strict positive, as the bytes before the data and the data handed out.
use Rattle.std.specs.Prelude.{ℕ, ◌*◌, ◌%◌, ◌^◌, ◌≤◌, ◌<◌, ◌≡◌, ◌≢◌, List, [], ◌∷◌, length}
use Rattle.std.proofs.Math.Option.{Option, none, some}
use Rattle.rules.specs.Bytes.{value, two}
use Rattle.rules.specs.Calls.{Call, request, session, reset, security, tester_present, read_memory, write_memory, read_identifier, write_identifier, fault_count, routine, download, upload, transfer, transfer_exit, fault_list, sent, memory}

-- "n0, n bytes": "Calls 11 and 12 need n 1..15 and a value of 3 up to 2^64 − 1."
pub record Loading (sid : ℕ) (head d : List ℕ) : Type 0 where
  pub form : head ≡ sid ∷ (length d * 16) ∷ []
  pub least : 1 ≤ length d
  pub most : length d ≤ 15
  pub three : 3 ≤ value d
  pub fits : value d < 2 ^ 64

-- "at least 1 if data absent"
abbrev pub Asking : Option (List ℕ) → List ℕ → Type 0
Asking none d = 1 ≤ length d
Asking (some x) d = Unit {0}

-- A positive answer to the call is head ++ d, with d handed out. (Call 0 has no row.)
abbrev pub Positive : Call → List ℕ → List ℕ → Type 0
Positive (request sid sub x) head d = ⊥
Positive (session sub) head d = (head ≡ 0x50 ∷ sub % 128 ∷ []) × (length d ≡ 4)
Positive (reset sub) head d = (head ≡ 0x51 ∷ sub % 128 ∷ []) × (sub % 128 ≡ 4 → length d ≡ 1) × (sub % 128 ≢ 4 → d ≡ [])
Positive (security sub x) head d =
    (head ≡ 0x67 ∷ sub % 128 ∷ []) × (sub % 2 ≡ 1 → 1 ≤ length d) × (sub % 2 ≡ 0 → d ≡ [])
Positive tester_present head d = (head ≡ 0x7e ∷ 0x00 ∷ []) × (d ≡ [])
Positive (read_memory a s) head d = (head ≡ 0x63 ∷ []) × (length d ≡ value (sent s)) × (1 ≤ length d)
Positive (write_memory a s x) head d = (head ≡ 0x7d ∷ []) × (d ≡ memory a s)
Positive (read_identifier id) head d = (head ≡ 0x62 ∷ two id) × (1 ≤ length d)
Positive (write_identifier id x) head d = (head ≡ 0x6e ∷ two id) × (d ≡ [])
Positive (fault_count mask) head d = (head ≡ 0x59 ∷ 0x01 ∷ []) × (length d ≡ 4)
Positive (routine sub id x) head d = head ≡ 0x71 ∷ sub % 128 ∷ two id
Positive (download c e a s) head d = Loading 0x74 head d
Positive (upload c e a s) head d = Loading 0x75 head d
Positive (transfer counter x) head d = (head ≡ 0x76 ∷ counter ∷ []) × Asking x d
Positive (transfer_exit x) head d = head ≡ 0x77 ∷ []
-- Document 02: "59 02, an availability mask, then zero or more records of three fault-code bytes and one status byte"
Positive (fault_list mask) head d = (head ≡ 0x59 ∷ 0x02 ∷ []) × (length d % 4 ≡ 1)
