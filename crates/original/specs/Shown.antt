-- The Rust's results and those of `rules`, told in the same terms.
use Rattle.std.specs.Prelude.{ℕ, zero, suc, ◌/◌, Bool, true, false, cond, List, [], ◌∷◌, ◌++◌, leb, eqb, take}
use Rattle.std.proofs.Math.Option.{Option, none, some}
use Rattle.rules.specs.Answers.{Part, Fault, deviation, deviation8, bad_length, overflow, Outcome, positive, suppressed, negative, timeout}
use Rattle.rules.specs.Answers.{pending_limit, disconnected, transport, fault, refused, Answer}
use Rattle.rules.specs.Bytes.{two}
use Rattle.rules.specs.Calls.{Field, given, alfid, Call, request, session, reset, security, tester_present, read_memory, write_memory, read_identifier}
use Rattle.rules.specs.Calls.{write_identifier, fault_count, routine, download, upload, transfer, transfer_exit, fault_list, head, numbered, loads}
use Rattle.rules.specs.Client.{Result}
use Rattle.rules.specs.Events.{Event}
use Rattle.rules.specs.Settings.{Timing}
use Rattle.original.specs.Rust.{World, world, Run, ok, err, panics, ◌>>=◌, ◌>>◌}
use Rattle.original.specs.Errors.{ProtocolDeviation, InvalidServiceId, InvalidRequestServiceId, InvalidSubFunction, UnexpectedPositiveResponse}
use Rattle.original.specs.Errors.{InvalidDataIdentifier, InvalidRoutineIdentifier, InvalidBlockSequenceCounter, InvalidLength}
use Rattle.original.specs.Errors.{InvalidLengthFormat, InvalidLengthFormatIdentifier, InvalidMaxNumberOfBlockLength}
use Rattle.original.specs.Errors.{InvalidAddressAndLengthFormatIdentifier, InvalidMemoryAddress, InvalidMemorySize, InvalidMemoryRecordLength}
use Rattle.original.specs.Errors.{Error, Timeout, Disconnected, Transport, Deviation, InvalidResponseLength, InvalidCompressionMethod}
use Rattle.original.specs.Errors.{InvalidEncryptionMethod, InvalidMemoryValueWidth, MemoryValueOverflow, BlockLengthOverflow, NegativeResponse}
use Rattle.original.specs.Client
use Rattle.original.specs.Client.{Async, Ok, UDSConfig, Response, response, RequestOutcome, PositiveResponse, Suppressed, memory-bytes}
use Rattle.original.specs.Client.{diagnostic-session-control, ecu-reset, security-access, tester-present, read-write-memory-by-adddress}
use Rattle.original.specs.Client.{read-data-by-identifier, write-data-by-identifier, read-dtc-information-number-of-dtc-by-status-mask}
use Rattle.original.specs.Client.{routine-control, request-download-or-upload, transfer-data, request-transfer-exit}
use Rattle.original.specs.Suppressed

-- What an error says in document 01's words: an outcome, and the reply that a deviation or an overflow carries.
pub record Fail : Type 0 where
  pub outcome : Outcome
  pub reply : List ℕ

abbrev pub fail : Outcome → List ℕ → Fail
fail o r = record { outcome = o; reply = r }

-- "Deviations are numbered 1 to 15 in the order of `ProtocolDeviation`."
abbrev pub deviating : ProtocolDeviation → Fault
deviating (InvalidServiceId e a) = deviation 1
deviating (InvalidRequestServiceId e a) = deviation 2
deviating (InvalidSubFunction e a) = deviation 3
deviating UnexpectedPositiveResponse = deviation 4
deviating (InvalidDataIdentifier e a) = deviation 5
deviating (InvalidRoutineIdentifier e a) = deviation 6
deviating (InvalidBlockSequenceCounter e a) = deviation 7
deviating (InvalidLength least most) = deviation8 least most
deviating (InvalidLengthFormat n) = deviation 9
deviating (InvalidLengthFormatIdentifier b) = deviation 10
deviating (InvalidMaxNumberOfBlockLength v) = deviation 11
deviating (InvalidAddressAndLengthFormatIdentifier e a) = deviation 12
deviating (InvalidMemoryAddress e a) = deviation 13
deviating (InvalidMemorySize e a) = deviation 14
deviating (InvalidMemoryRecordLength e a) = deviation 15

abbrev pub fail_of : Error → Fail
fail_of Timeout = fail timeout []
fail_of Disconnected = fail disconnected []
fail_of (Transport n) = fail (transport n) []
fail_of (Deviation d r) = fail (fault (deviating d)) r
fail_of InvalidResponseLength = fail (fault bad_length) []
fail_of (InvalidCompressionMethod c) = fail (refused 4) []
fail_of (InvalidEncryptionMethod e) = fail (refused 5) []
fail_of (InvalidMemoryValueWidth w) = fail (refused 6) []
fail_of (MemoryValueOverflow v w) = fail (refused 7) []
fail_of (BlockLengthOverflow v r) = fail (fault overflow) r
fail_of (NegativeResponse c) = fail (negative c) []

-- A Rust run, its errors told so.
abbrev pub shown : {A : Type 0} → Run Error A → Run Fail A
shown (ok x w) = ok x w
shown (err e w) = err (fail_of e) w
shown (panics w) = panics w

-- The reply beside a fault.
abbrev pub carried : Fault → List ℕ → List ℕ
carried (deviation n) r = r
carried (deviation8 least most) r = r
carried bad_length r = []
carried overflow r = r

-- "Panics and asserts become refusals 1 to 3."
abbrev pub refusing : {A : Type 0} → ℕ → World → Run Fail A
refusing n w = cond (leb n 3) (panics w) (err (fail (refused n) []) w)

-- An outcome of `rules` and the reply that settled it, as a run that ended in this world.
abbrev pub told : {A : Type 0} → (Part → World → Run Fail A) → (World → Run Fail A) → Outcome → List ℕ → World → Run Fail A
told answered hushed (positive p) r w = answered p w
told answered hushed suppressed r w = hushed w
told answered hushed (negative c) r w = err (fail (negative c) []) w
told answered hushed timeout r w = err (fail timeout []) w
told answered hushed pending_limit r w = err (fail pending_limit []) w
told answered hushed disconnected r w = err (fail disconnected []) w
told answered hushed (transport n) r w = err (fail (transport n) []) w
told answered hushed (fault f) r w = err (fail (fault f) (carried f r)) w
told answered hushed (refused n) r w = refusing n w

-- An exchange of `rules`: a positive has the whole reply, and its data behind SID and sub-function.
abbrev pub exchanged : Option ℕ → List (List ℕ) → Timing → Answer → Run Fail (RequestOutcome Response)
exchanged sub sent timing x =
    told (λ p w. ok (PositiveResponse (response x.reply.bytes (head sub))) w) (λ w. ok Suppressed w) x.outcome x.reply.bytes
    (world x.time sent timing)

-- What is handed out: bytes ("Absent and empty data handed out are one."), the number of calls 11 and 12, or in call 0 that the request was
-- suppressed. ("Where the Rust merges suppressed and a positive without data, the port names which.")
pub data Given : Type 0 where
  bytes : List ℕ → Given
  number : ℕ → Given
  hush : Given

-- A call of `rules`.
abbrev pub giving : Call → ℕ → Part → Given
giving c n p = cond (loads c) (number n) (bytes p.bytes)

abbrev pub silenced : Call → Given
silenced c = cond (eqb (numbered c) 0) hush (bytes [])

abbrev pub finished : Call → ℕ → Outcome → List ℕ → World → Run Fail Given
finished c n o r w = told (λ p w. ok (giving c n p) w) (λ w. ok (silenced c) w) o r w

-- The bytes at the buffer's front, if any were sent.
abbrev pub messages : ℕ → List ℕ → List (List ℕ)
messages zero buffer = []
messages (suc n) buffer = take (suc n) buffer ∷ []

abbrev pub called : Call → Result → Run Fail Given
called c x = finished c x.number x.answer.outcome x.answer.reply.bytes
    (world x.answer.time (messages x.sent x.buffer) x.timing)

-- A call of the Rust. What it hands out, as bytes.
abbrev pub optional : Option (List ℕ) → Given
optional none = bytes []
optional (some d) = bytes d

abbrev pub optional_byte : Option ℕ → Given
optional_byte none = bytes []
optional_byte (some b) = bytes (b ∷ [])

-- `Duration::from_millis(x)` and `from_millis(y * 10)` as the two pairs.
abbrev pub pairs : Option Timing → Given
pairs none = bytes []
pairs (some t) = bytes (two t.p2 ++ two (t.star / 10))

abbrev pub report : ℕ × ℕ × ℕ → Given
report r = bytes (r.0 ∷ r.1 ∷ two r.2)

abbrev pub optional_report : Option (ℕ × ℕ × ℕ) → Given
optional_report none = bytes []
optional_report (some r) = report r

abbrev pub of_request : RequestOutcome (List ℕ) → Given
of_request (PositiveResponse d) = bytes d
of_request Suppressed = hush

-- An address or a size; in an `alfid` form `memory_bytes(value, width)?`. (`.._alfid` is these two and then the form without.)
abbrev pub field : Field → Async (List ℕ)
field (given bs) = Ok bs
field (alfid v w wide) = memory-bytes v w

module _ (config : UDSConfig) (adapter : List Event) where
  -- By the view: `uds.suppress_positive_responses()`, or not.
  abbrev pub invoke : Bool → Call → Async Given
  invoke true (request sid sub d) = do x ← Suppressed.request config adapter sid sub d; Ok (of_request x)
  invoke false (request sid sub d) = do x ← Client.request config adapter sid sub d; Ok (of_request x)
  invoke true (session sub) = do x ← Suppressed.diagnostic-session-control config adapter sub; Ok (pairs x)
  invoke false (session sub) = do x ← diagnostic-session-control config adapter sub; Ok (pairs x)
  invoke true (reset sub) = do x ← Suppressed.ecu-reset config adapter sub; Ok (optional_byte x)
  invoke false (reset sub) = do x ← ecu-reset config adapter sub; Ok (optional_byte x)
  invoke true (security sub d) = do x ← Suppressed.security-access config adapter sub d; Ok (optional x)
  invoke false (security sub d) = do x ← security-access config adapter sub d; Ok (optional x)
  invoke true tester_present = do Suppressed.tester-present config adapter; Ok (bytes [])
  invoke false tester_present = do tester-present config adapter; Ok (bytes [])
  invoke quiet (read_memory a s) = do
    address ← field a
    size ← field s
    d ← read-write-memory-by-adddress config adapter 0x23 address size none
    Ok (bytes d)
  invoke quiet (write_memory a s x) = do
    address ← field a
    size ← field s
    d ← read-write-memory-by-adddress config adapter 0x3d address size (some x)
    Ok (bytes d)
  invoke quiet (read_identifier id) = do d ← read-data-by-identifier config adapter id; Ok (bytes d)
  invoke quiet (write_identifier id x) = do write-data-by-identifier config adapter id x; Ok (bytes [])
  invoke true (fault_count mask) = do x ← Suppressed.read-dtc-information-number-of-dtc-by-status-mask config adapter mask; Ok (optional_report x)
  invoke false (fault_count mask) = do x ← read-dtc-information-number-of-dtc-by-status-mask config adapter mask; Ok (report x)
  invoke true (routine sub id x) = do d ← Suppressed.routine-control config adapter sub id x; Ok (optional d)
  invoke false (routine sub id x) = do d ← routine-control config adapter sub id x; Ok (optional d)
  invoke quiet (download c e a s) = do
    address ← field a
    size ← field s
    n ← request-download-or-upload config adapter 0x34 c e address size
    Ok (number n)
  invoke quiet (upload c e a s) = do
    address ← field a
    size ← field s
    n ← request-download-or-upload config adapter 0x35 c e address size
    Ok (number n)
  invoke quiet (transfer counter x) = do d ← transfer-data config adapter counter x; Ok (optional d)
  invoke quiet (transfer_exit x) = do d ← request-transfer-exit config adapter x; Ok (optional d)
  -- (Call 15 is not the Rust's.)
  invoke quiet (fault_list mask) = λ w. panics w
