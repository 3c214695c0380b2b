-- Rows for requests: what each call sends as the client and as the suppressed client, strict and lenient, and what it leaves behind when nothing comes.
use Rattle.std.specs.Prelude.{ℕ, Bool, true, false, ◌≡◌, List, [], ◌∷◌, ◌++◌, map, length, drop}
use Rattle.std.proofs.Math.Option.{none, some}
use Rattle.rules.specs.Answers.{Outcome, suppressed, timeout}
use Rattle.rules.specs.Calls.{Call, request, session, reset, security, tester_present, read_memory, write_memory, read_identifier, write_identifier, fault_count, routine, download, upload, transfer, transfer_exit, fault_list, given, alfid}
use Rattle.rules.specs.Client.{call}
use Rattle.rules.specs.Examples.{blank, lent, setting}

-- A call; its request and what silence up to P2 is to it; the same for the suppressed client.
pub record RequestRow : Type 0 where
  pub call : Call
  pub plain : List ℕ
  pub heard : Outcome
  pub hushed : List ℕ
  pub heard_hushed : Outcome

abbrev pub sends : Call → List ℕ → Outcome → List ℕ → Outcome → RequestRow
sends c plain o hushed o' = record { call = c; plain = plain; heard = o; hushed = hushed; heard_hushed = o' }

-- A call that the suppressed client sends as it is.
abbrev pub unchanged : Call → List ℕ → RequestRow
unchanged c bs = sends c bs timeout bs timeout

unfoldable pub request_rows : List RequestRow
request_rows =
    sends (request 0x2f (some 0x03) (some (0x01 ∷ 0x02 ∷ []))) (0x2f ∷ 0x03 ∷ 0x01 ∷ 0x02 ∷ []) timeout (0x2f ∷ 0x83 ∷ 0x01 ∷ 0x02 ∷ []) suppressed ∷
    sends (request 0x2f (some 0x83) none) (0x2f ∷ 0x83 ∷ []) suppressed (0x2f ∷ 0x83 ∷ []) suppressed ∷
    unchanged (request 0x22 none (some (0xf1 ∷ 0x90 ∷ []))) (0x22 ∷ 0xf1 ∷ 0x90 ∷ []) ∷
    unchanged (request 0x3f none none) (0x3f ∷ []) ∷
    sends (session 0x7f) (0x10 ∷ 0x7f ∷ []) timeout (0x10 ∷ 0xff ∷ []) suppressed ∷
    sends (session 0x80) (0x10 ∷ 0x80 ∷ []) suppressed (0x10 ∷ 0x80 ∷ []) suppressed ∷
    sends (reset 0x01) (0x11 ∷ 0x01 ∷ []) timeout (0x11 ∷ 0x81 ∷ []) suppressed ∷
    sends (security 0x01 none) (0x27 ∷ 0x01 ∷ []) timeout (0x27 ∷ 0x81 ∷ []) suppressed ∷
    sends (security 0x02 (some (0xab ∷ 0xcd ∷ []))) (0x27 ∷ 0x02 ∷ 0xab ∷ 0xcd ∷ []) timeout (0x27 ∷ 0x82 ∷ 0xab ∷ 0xcd ∷ []) suppressed ∷
    sends tester_present (0x3e ∷ 0x00 ∷ []) timeout (0x3e ∷ 0x80 ∷ []) suppressed ∷
    unchanged (read_memory (given (0x20 ∷ 0x00 ∷ [])) (given (0x10 ∷ []))) (0x23 ∷ 0x12 ∷ 0x20 ∷ 0x00 ∷ 0x10 ∷ []) ∷
    unchanged (write_memory (given (0x20 ∷ 0x00 ∷ [])) (given (0x01 ∷ [])) (0xaa ∷ [])) (0x3d ∷ 0x12 ∷ 0x20 ∷ 0x00 ∷ 0x01 ∷ 0xaa ∷ []) ∷
    unchanged (read_identifier 0xf190) (0x22 ∷ 0xf1 ∷ 0x90 ∷ []) ∷
    unchanged (write_identifier 0xf190 (0x41 ∷ 0x42 ∷ [])) (0x2e ∷ 0xf1 ∷ 0x90 ∷ 0x41 ∷ 0x42 ∷ []) ∷
    sends (fault_count 0x80) (0x19 ∷ 0x01 ∷ 0x80 ∷ []) timeout (0x19 ∷ 0x81 ∷ 0x80 ∷ []) suppressed ∷
    sends (fault_list 0x80) (0x19 ∷ 0x02 ∷ 0x80 ∷ []) timeout (0x19 ∷ 0x82 ∷ 0x80 ∷ []) suppressed ∷
    sends (routine 0x01 0xff00 (some (0x05 ∷ []))) (0x31 ∷ 0x01 ∷ 0xff ∷ 0x00 ∷ 0x05 ∷ []) timeout (0x31 ∷ 0x81 ∷ 0xff ∷ 0x00 ∷ 0x05 ∷ []) suppressed ∷
    sends (routine 0x02 0x0203 none) (0x31 ∷ 0x02 ∷ 0x02 ∷ 0x03 ∷ []) timeout (0x31 ∷ 0x82 ∷ 0x02 ∷ 0x03 ∷ []) suppressed ∷
    unchanged (download 1 2 (given (0x20 ∷ 0x00 ∷ [])) (given (0x10 ∷ []))) (0x34 ∷ 0x12 ∷ 0x12 ∷ 0x20 ∷ 0x00 ∷ 0x10 ∷ []) ∷
    unchanged (upload 3 4 (given (0x20 ∷ [])) (given (0x00 ∷ 0x10 ∷ []))) (0x35 ∷ 0x34 ∷ 0x21 ∷ 0x20 ∷ 0x00 ∷ 0x10 ∷ []) ∷
    unchanged (transfer 0x81 (some (0xaa ∷ 0xbb ∷ []))) (0x36 ∷ 0x81 ∷ 0xaa ∷ 0xbb ∷ []) ∷
    unchanged (transfer 0x01 none) (0x36 ∷ 0x01 ∷ []) ∷
    unchanged (transfer_exit (some (0x81 ∷ []))) (0x37 ∷ 0x81 ∷ []) ∷
    unchanged (transfer_exit none) (0x37 ∷ []) ∷
    -- The `alfid` forms: "each with a width in bytes, sent high byte first".
    unchanged (read_memory (alfid 0x1234 4 false) (alfid 0x0102 3 false)) (0x23 ∷ 0x34 ∷ 0x00 ∷ 0x00 ∷ 0x12 ∷ 0x34 ∷ 0x00 ∷ 0x01 ∷ 0x02 ∷ []) ∷
    unchanged (write_memory (alfid 0x010203 3 false) (alfid 0 2 false) (0xaa ∷ [])) (0x3d ∷ 0x23 ∷ 0x01 ∷ 0x02 ∷ 0x03 ∷ 0x00 ∷ 0x00 ∷ 0xaa ∷ []) ∷
    unchanged (download 0 15 (alfid 0xff 1 false) (alfid 0x0102030405060708 8 false))
    (0x34 ∷ 0x0f ∷ 0x81 ∷ 0xff ∷ 0x01 ∷ 0x02 ∷ 0x03 ∷ 0x04 ∷ 0x05 ∷ 0x06 ∷ 0x07 ∷ 0x08 ∷ []) ∷
    unchanged (upload 15 0 (alfid 0xfffefdfcfbfaf9f8 8 false) (alfid 0x01 1 false))
    (0x35 ∷ 0xf0 ∷ 0x18 ∷ 0xff ∷ 0xfe ∷ 0xfd ∷ 0xfc ∷ 0xfb ∷ 0xfa ∷ 0xf9 ∷ 0xf8 ∷ 0x01 ∷ []) ∷ []

-- The outcome, how many bytes were sent, the timing and the whole buffer afterwards.
abbrev pub leaves : Bool → Bool → RequestRow → Outcome × ℕ × (ℕ × ℕ) × List ℕ
leaves strict quiet r =
    let x = call strict (setting none quiet) r.call (lent []) in
    (x.answer.outcome, x.sent, (x.timing.p2, x.timing.star), x.buffer)

abbrev pub leaving : Outcome → List ℕ → Outcome × ℕ × (ℕ × ℕ) × List ℕ
leaving o bs = (o, length bs, (50, 5000), bs ++ drop (length bs) blank)

abbrev pub RequestRows : Type 0
RequestRows =
    (map (leaves true false) request_rows ≡ map (λ r. leaving r.heard r.plain) request_rows) ×
    (map (leaves false false) request_rows ≡ map (λ r. leaving r.heard r.plain) request_rows) ×
    (map (leaves true true) request_rows ≡ map (λ r. leaving r.heard_hushed r.hushed) request_rows) ×
    (map (leaves false true) request_rows ≡ map (λ r. leaving r.heard_hushed r.hushed) request_rows)
