-- mod.rs: the functions of `UDSClient` that are moved, in its order, statement by statement; a name's `_` is `-` here.
use Rattle.std.specs.Prelude.{ℕ, ◌+◌, ◌-◌, ◌*◌, ◌/◌, ◌%◌, ◌^◌, Bool, true, false, cond, not, ◌&&◌, ◌||◌, List, [], ◌∷◌, ◌++◌, leb, ltb, eqb, length, take, drop}
use Rattle.std.proofs.Math.Option.{Option, none, some}
use Rattle.std.specs.Int.Bits.{bit_and, bit_or}
use Rattle.rules.specs.Bytes.{bytes_of, two, same}
use Rattle.rules.specs.Events.{Event, reply, idle, ended, failed, time_of}
use Rattle.rules.specs.Settings.{Timing}
use Rattle.original.specs.Rust.{World, Run, ok, ◌>>=◌, ◌>>◌, return_err, return_if, do_if, if_else, assert, index, slice_from, slice, shl, fold_from}
use Rattle.original.specs.Rust.{is_empty, send, read_timing, write_timing, instant_now, sleep_until, timeout}
use Rattle.original.specs.Errors.{ProtocolDeviation, InvalidServiceId, InvalidRequestServiceId, InvalidSubFunction, UnexpectedPositiveResponse}
use Rattle.original.specs.Errors.{InvalidDataIdentifier, InvalidRoutineIdentifier, InvalidBlockSequenceCounter, InvalidLength}
use Rattle.original.specs.Errors.{InvalidLengthFormat, InvalidLengthFormatIdentifier, InvalidMaxNumberOfBlockLength}
use Rattle.original.specs.Errors.{InvalidAddressAndLengthFormatIdentifier, InvalidMemoryAddress, InvalidMemorySize, InvalidMemoryRecordLength}
use Rattle.original.specs.Errors.{Error, Timeout, Disconnected, Transport, Deviation, InvalidResponseLength, InvalidCompressionMethod}
use Rattle.original.specs.Errors.{InvalidEncryptionMethod, InvalidMemoryValueWidth, MemoryValueOverflow, BlockLengthOverflow, NegativeResponse}

-- `async fn .. -> Result<A>`
abbrev pub Async : Type 0 → Type 0
Async A = World → Run Error A

-- `Ok(x)`
abbrev pub Ok : {A : Type 0} → A → Async A
Ok x = λ w. ok x w

infix 50 ◌≠◌
abbrev pub ◌≠◌ : ℕ → ℕ → Bool
◌≠◌ a b = not (eqb a b)

abbrev pub is_none : {A : Type 0} → Option A → Bool
is_none none = true
is_none (some x) = false

-- `if let Some(x) = x { request.push(x) }`, `if let Some(data) = data { request.extend(data) }`
abbrev pub pushed : Option ℕ → List ℕ
pushed none = []
pushed (some x) = x ∷ []

abbrev pub extended : Option (List ℕ) → List ℕ
extended none = []
extended (some data') = data'

-- `u16::from_be_bytes([a, b])`
abbrev pub from_be : ℕ → ℕ → ℕ
from_be a b = a * 256 + b

abbrev pub any_non_zero : List ℕ → Bool
any_non_zero [] = false
any_non_zero (b ∷ bs) = b ≠ 0 || any_non_zero bs

-- mod.rs 56-68
abbrev pub memory-bytes : ℕ → ℕ → Async (List ℕ)
memory-bytes value width = do
  return_if (not (leb 1 width && leb width 8)) (InvalidMemoryValueWidth width)
  let bytes = bytes_of 8 value
  let start = 8 - width
  return_if (any_non_zero (take start bytes)) (MemoryValueOverflow value width)
  Ok (drop start bytes)

-- mod.rs 70-87
pub record Response : Type 0 where
  pub payload : List ℕ
  pub data-start : ℕ

abbrev pub response : List ℕ → ℕ → Response
response payload start = record { payload = payload; data-start = start }

abbrev pub data_of : Response → Async (List ℕ)
data_of r = slice_from r.payload r.data-start

abbrev pub deviation : Response → ProtocolDeviation → Error
deviation r d = Deviation d r.payload

-- types.rs 11-17
pub data RequestOutcome (A : Type 0) : Type 0 where
  PositiveResponse : A → RequestOutcome A
  Suppressed : RequestOutcome A

-- How a turn of the `loop` goes on: `continue` with pending_received and response_deadline, or `return Ok(..)`. (`return Err(..)` is the run's.)
pub data Flow : Type 0 where
  continue : Bool → ℕ → Flow
  return : RequestOutcome Response → Flow

abbrev pub next : (Bool → ℕ → Async (RequestOutcome Response)) → Flow → Async (RequestOutcome Response)
next again (continue pending-received deadline) = again pending-received deadline
next again (return x) = Ok x

-- config.rs 16-35, of it what is read after `with_config` (mod.rs 104-113)
pub record UDSConfig : Type 0 where
  pub request-timeout : Option ℕ
  pub use-server-timing : Bool
  pub strict : Bool

-- types.rs 74-80, 115-121; `try_into` is `new`
abbrev pub compression_method : ℕ → Async ℕ
compression_method value = do
  return_if (not (leb value 0xf)) (InvalidCompressionMethod value)
  Ok value

abbrev pub encryption_method : ℕ → Async ℕ
encryption_method value = do
  return_if (not (leb value 0xf)) (InvalidEncryptionMethod value)
  Ok value

-- `self`: its configuration, and what its adapter will receive.
module _ (config : UDSConfig) (adapter : List Event) where
  -- mod.rs 346-361
  abbrev pub invalid-response-length : List ℕ → ℕ → Option ℕ → Error
  invalid-response-length r minimum maximum = cond config.strict (Deviation (InvalidLength minimum maximum) r) InvalidResponseLength

  -- request_inner's `loop` (mod.rs 242-343), with the locals that it reads.
  module _ (sid : ℕ) (sub-function : Option ℕ) (timing : Timing) (suppress : Bool) (initial-deadline : ℕ) where
    -- "Check sub function" (mod.rs 304-321). `actual` is read before its test, so that an index out of range would panic here too.
    abbrev pub check_sub : Option ℕ → List ℕ → Async (Unit {0})
    check_sub none r = Ok tt
    check_sub (some sub) r = do
      return_if (leb (length r) 1) (invalid-response-length r 2 none)
      let expected = bit_and sub 0x7f
      actual ← index r 1
      return_if (config.strict && actual ≠ expected) (deviation (response r 0) (InvalidSubFunction expected actual))
      Ok tt

    -- From `let code` on (mod.rs 276-289)
    abbrev pub coded : ℕ → Async Flow
    coded code = if_else (eqb code 0x78)
        (do
          now ← instant_now
          Ok (continue true (now + timing.star)))
        (do
          do_if suppress (sleep_until initial-deadline)
          return_err (NegativeResponse code))

    -- `if response_sid == NEGATIVE_RESPONSE { .. }` (mod.rs 260-290)
    abbrev pub negative_reply : List ℕ → Async Flow
    negative_reply r = do
      return_if (ltb (length r) 3 || (config.strict && length r ≠ 3)) (invalid-response-length r 3 (some 3))
      actual ← index r 1
      return_if (config.strict && actual ≠ sid) (deviation (response r 0) (InvalidRequestServiceId sid actual))
      code ← index r 2
      coded code

    -- From `let start` on (mod.rs 333-342)
    abbrev pub positive_end : List ℕ → Async Flow
    positive_end r = do
      let start : ℕ = cond (is_none sub-function) 1 2
      do_if suppress (sleep_until initial-deadline)
      Ok (return (PositiveResponse (response r start)))

    -- From "Check service id" on (mod.rs 292-331)
    abbrev pub positive_reply : Bool → List ℕ → ℕ → Async Flow
    positive_reply pending-received r response-sid = do
      return_if (config.strict && response-sid ≠ bit_or sid 0x40) (deviation (response r 0) (InvalidServiceId (bit_or sid 0x40) response-sid))
      check_sub sub-function r
      return_if (config.strict && suppress && not pending-received) (deviation (response r 0) UnexpectedPositiveResponse)
      positive_end r

    -- Behind the `match`: a reply (mod.rs 253-260)
    abbrev pub replied : Bool → List ℕ → Async Flow
    replied pending-received r = do
      return_if (is_empty r) (invalid-response-length r 1 none)
      response-sid ← index r 0
      if_else (eqb response-sid 0x7f) (negative_reply r) (positive_reply pending-received r response-sid)

    -- The `match` on what `stream.next()` gave in time (mod.rs 249-250)
    abbrev pub received : Bool → ℕ → Event → Async Flow
    received pending-received deadline (reply t p) = replied pending-received p.bytes
    received pending-received deadline (idle t) = Ok (continue pending-received deadline)
    received pending-received deadline (ended t) = return_err Disconnected
    received pending-received deadline (failed t n) = return_err (Transport n)

    -- `Err(_) if suppress && !pending_received => return Ok(Suppressed)`, `Err(_) => return Err(Timeout)` (mod.rs 244-245)
    abbrev pub elapsed : Bool → Async (RequestOutcome Response)
    elapsed pending-received = if_else (suppress && not pending-received) (Ok Suppressed) (return_err Timeout)

    -- `loop`: `timeout_at(response_deadline, stream.next())` (mod.rs 243) gives the next event, at its time, if that is by the deadline, and else
    -- elapses at the deadline.
    unfoldable pub loop : List Event → Bool → ℕ → Async (RequestOutcome Response)
    loop [] pending-received deadline = do
      sleep_until deadline
      elapsed pending-received
    loop (e ∷ es) pending-received deadline = if_else (leb (time_of e) deadline)
        (do
          sleep_until (time_of e)
          flow ← received pending-received deadline e
          next (loop es) flow)
        (do
          sleep_until deadline
          elapsed pending-received)

  -- `sub_function.is_some_and(|value| value & 0x80 != 0)` (mod.rs 238)
  abbrev pub suppresses : Option ℕ → Bool
  suppresses none = false
  suppresses (some value) = bit_and value 0x80 ≠ 0

  -- mod.rs 216-344
  abbrev pub request-inner : ℕ → Option ℕ → Option (List ℕ) → Async (RequestOutcome Response)
  request-inner sid sub-function data' = do
    let request = sid ∷ pushed sub-function ++ extended data'
    send request
    timing ← read_timing
    let suppress = suppresses sub-function
    now ← instant_now
    let initial-deadline = now + timing.p2
    loop sid sub-function timing suppress initial-deadline adapter false initial-deadline

  -- `match self.config.request_timeout` (mod.rs 208-213)
  abbrev pub within : Option ℕ → Async (RequestOutcome Response) → Async (RequestOutcome Response)
  within none exchange = exchange
  within (some limit) exchange = timeout limit Timeout exchange

  -- mod.rs 201-214
  abbrev pub request-exchange : ℕ → Option ℕ → Option (List ℕ) → Async (RequestOutcome Response)
  request-exchange sid sub-function data' = within config.request-timeout (request-inner sid sub-function data')

  -- By what a request gave: `match` and `let .. else`.
  abbrev pub on_outcome : {A B : Type 0} → RequestOutcome A → (A → Async B) → Async B → Async B
  on_outcome (PositiveResponse x) positive suppressed = positive x
  on_outcome Suppressed positive suppressed = suppressed

  -- mod.rs 169-186
  abbrev pub request : ℕ → Option ℕ → Option (List ℕ) → Async (RequestOutcome (List ℕ))
  request sid sub-function data' = do
    outcome ← request-exchange sid sub-function data'
    on_outcome outcome (λ r. do d ← data_of r; Ok (PositiveResponse d)) (Ok Suppressed)

  -- mod.rs 189-199
  abbrev pub request-response : ℕ → Option ℕ → Option (List ℕ) → Async Response
  request-response sid sub-function data' = do
    outcome ← request-exchange sid sub-function data'
    on_outcome outcome Ok (return_err InvalidResponseLength)

  -- `maximum.is_some_and(|maximum| length > maximum)`
  abbrev pub exceeds : ℕ → Option ℕ → Bool
  exceeds length none = false
  exceeds length (some maximum) = ltb maximum length

  -- mod.rs 363-376
  abbrev pub validate-response-length : Response → ℕ → Option ℕ → Async Response
  validate-response-length r minimum maximum = do
    let n = length r.payload
    return_if (config.strict && (ltb n minimum || exceeds n maximum)) (invalid-response-length r.payload minimum maximum)
    Ok r

  -- `if result.len() == 4 { .. Some(SessionParameterRecord { .. }) } else { None }` (mod.rs 400-413)
  abbrev pub session_record : List ℕ → Async (Option Timing)
  session_record result = if_else (eqb (length result) 4)
      (do
        a ← index result 0
        b ← index result 1
        c ← index result 2
        d ← index result 3
        Ok (some (record { p2 = from_be a b; star = from_be c d * 10 })))
      (Ok none)

  -- `if let Some(timing) = result { *self.session_timing.write().unwrap() = timing; }`
  abbrev pub adopt : Option Timing → Async (Unit {0})
  adopt none = Ok tt
  adopt (some timing) = write_timing timing

  -- mod.rs 382-422
  abbrev pub diagnostic-session-control : ℕ → Async (Option Timing)
  diagnostic-session-control session-type = do
    outcome ← request-exchange 0x10 (some session-type) none
    on_outcome outcome
        (λ r. do
          r ← validate-response-length r 6 (some 6)
          result ← data_of r
          result ← session_record result
          do_if config.use-server-timing (adopt result)
          Ok result)
        (Ok none)

  -- mod.rs 427-452
  abbrev pub ecu-reset : ℕ → Async (Option ℕ)
  ecu-reset reset-type = do
    outcome ← request-exchange 0x11 (some reset-type) none
    on_outcome outcome
        (λ r. do
          let expected : ℕ = cond (eqb (bit_and reset-type 0x7f) 4) 3 2
          r ← validate-response-length r expected (some expected)
          result ← data_of r
          if_else (eqb (length result) 1) (do x ← index result 0; Ok (some x)) (Ok none))
        (Ok none)

  -- mod.rs 459-486; `panic!` is an assertion of the contrary
  abbrev pub security-access : ℕ → Option (List ℕ) → Async (Option (List ℕ))
  security-access access-type data' = do
    let send-key = eqb (access-type % 2) 0
    assert (not (send-key && is_none data'))
    outcome ← request-exchange 0x27 (some access-type) data'
    on_outcome outcome
        (λ r. if_else send-key
        (do r ← validate-response-length r 2 (some 2); Ok none)
        (do r ← validate-response-length r 3 none; d ← data_of r; Ok (some d)))
        (Ok none)

  -- mod.rs 489-495
  abbrev pub tester-present : Async (Unit {0})
  tester-present = do
    r ← request-response 0x3e (some 0) none
    r ← validate-response-length r 2 (some 2)
    Ok tt

  -- mod.rs 497-578
  abbrev pub read-write-memory-by-adddress : ℕ → List ℕ → List ℕ → Option (List ℕ) → Async (List ℕ)
  read-write-memory-by-adddress sid memory-address memory-size data' = do
    assert (eqb sid 0x23 || eqb sid 0x3d)
    assert (not (is_empty memory-address) && leb (length memory-address) 0xf)
    assert (not (is_empty memory-size) && leb (length memory-size) 0xf)
    let address-and-length-format = bit_or (shl (length memory-size) 4) (length memory-address)
    let buf = address-and-length-format ∷ memory-address ++ memory-size ++ extended data'
    r ← request-response sid none (some buf)
    if_else config.strict
        (if_else (eqb sid 0x23)
        (do
          resp ← data_of r
          let expected = fold_from 0 memory-size
          return_if (expected ≠ length resp) (deviation r (InvalidMemoryRecordLength expected (length resp)))
          return_if (is_empty resp) (invalid-response-length r.payload 2 none)
          data_of r)
        (do
          let expected-length = 2 + length memory-address + length memory-size
          r ← validate-response-length r expected-length (some expected-length)
          resp ← data_of r
          actual ← index resp 0
          return_if (actual ≠ address-and-length-format) (deviation r (InvalidAddressAndLengthFormatIdentifier address-and-length-format actual))
          let size-start = 1 + length memory-address
          actual ← slice resp 1 size-start
          return_if (not (same actual memory-address)) (deviation r (InvalidMemoryAddress memory-address actual))
          actual ← slice_from resp size-start
          return_if (not (same actual memory-size)) (deviation r (InvalidMemorySize memory-size actual))
          Ok resp))
        (data_of r)

  -- The echo of read_data_by_identifier (mod.rs 593-607) and write_data_by_identifier (mod.rs 660-674), which have these lines alike.
  abbrev pub identified : ℕ → Response → Async (List ℕ)
  identified data-identifier r = do
    resp ← data_of r
    return_if (ltb (length resp) 2) (invalid-response-length r.payload 3 none)
    a ← index resp 0
    b ← index resp 1
    let did = from_be a b
    return_if (config.strict && did ≠ data-identifier) (deviation r (InvalidDataIdentifier data-identifier did))
    Ok resp

  -- mod.rs 582-610
  abbrev pub read-data-by-identifier : ℕ → Async (List ℕ)
  read-data-by-identifier data-identifier = do
    r ← request-response 0x22 none (some (two data-identifier))
    r ← validate-response-length r 4 none
    resp ← identified data-identifier r
    slice_from resp 2

  -- mod.rs 647-677
  abbrev pub write-data-by-identifier : ℕ → List ℕ → Async (Unit {0})
  write-data-by-identifier data-identifier data-record = do
    r ← request-response 0x2e none (some (two data-identifier ++ data-record))
    r ← validate-response-length r 3 (some 3)
    resp ← identified data-identifier r
    Ok tt

  -- mod.rs 731-750; `DTCReportNumberByStatusMask`: mask, format, count
  abbrev pub parse-dtc-report-number-by-status-mask : Response → Async (ℕ × ℕ × ℕ)
  parse-dtc-report-number-by-status-mask r = do
    resp ← data_of r
    return_if (ltb (length resp) 4 || (config.strict && length resp ≠ 4)) (invalid-response-length r.payload 6 (some 6))
    mask ← index resp 0
    format ← index resp 1
    a ← index resp 2
    b ← index resp 3
    Ok (mask, format, from_be a b)

  -- mod.rs 717-729
  abbrev pub read-dtc-information-number-of-dtc-by-status-mask : ℕ → Async (ℕ × ℕ × ℕ)
  read-dtc-information-number-of-dtc-by-status-mask mask = do
    r ← request-response 0x19 (some 1) (some (mask ∷ []))
    parse-dtc-report-number-by-status-mask r

  -- mod.rs 755-800
  abbrev pub routine-control : ℕ → ℕ → Option (List ℕ) → Async (Option (List ℕ))
  routine-control routine-control-type routine-identifier data' = do
    let buf = two routine-identifier ++ extended data'
    outcome ← request-exchange 0x31 (some routine-control-type) (some buf)
    on_outcome outcome
        (λ r. do
          resp ← data_of r
          return_if (ltb (length resp) 2) (invalid-response-length r.payload 4 none)
          a ← index resp 0
          b ← index resp 1
          let id = from_be a b
          return_if (config.strict && id ≠ routine-identifier) (deviation r (InvalidRoutineIdentifier routine-identifier id))
          if_else (ltb 2 (length resp)) (do d ← slice_from resp 2; Ok (some d)) (Ok none))
        (Ok none)

  -- request_download_upload behind its request (mod.rs 825-870).
  abbrev pub block_length : Response → Async ℕ
  block_length r = do
    resp ← data_of r
    return_if (is_empty resp) (invalid-response-length r.payload 2 none)
    format ← index resp 0
    let num-length-bytes = format / 2 ^ 4
    return_if (config.strict && bit_and format 0x0f ≠ 0) (deviation r (InvalidLengthFormatIdentifier format))
    return_if (config.strict && eqb num-length-bytes 0) (deviation r (InvalidLengthFormat num-length-bytes))
    let expected = num-length-bytes + 2
    return_if (ltb (length resp) (num-length-bytes + 1) || (config.strict && length resp ≠ (num-length-bytes + 1)))
        (invalid-response-length r.payload expected (some expected))
    bytes ← slice resp 1 (num-length-bytes + 1)
    let value = fold_from 0 bytes
    return_if (config.strict && ltb value 3) (deviation r (InvalidMaxNumberOfBlockLength value))
    return_if (not (ltb value (2 ^ 64))) (BlockLengthOverflow value r.payload)
    Ok value

  -- mod.rs 802-871
  abbrev pub request-download-upload : ℕ → ℕ → ℕ → List ℕ → List ℕ → Async ℕ
  request-download-upload sid compression-method encryption-method memory-address memory-size = do
    assert (eqb sid 0x34 || eqb sid 0x35)
    assert (not (is_empty memory-address) && leb (length memory-address) 0xf)
    assert (not (is_empty memory-size) && leb (length memory-size) 0xf)
    let data-format = bit_or (shl compression-method 4) encryption-method
    let address-and-length-format = bit_or (shl (length memory-size) 4) (length memory-address)
    let buf = data-format ∷ address-and-length-format ∷ memory-address ++ memory-size
    r ← request-response sid none (some buf)
    block_length r

  -- request_download (mod.rs 882-905) and request_upload (mod.rs 941-964), which differ in the SID.
  abbrev pub request-download-or-upload : ℕ → ℕ → ℕ → List ℕ → List ℕ → Async ℕ
  request-download-or-upload sid compression-method encryption-method memory-address memory-size = do
    compression-method ← compression_method compression-method
    encryption-method ← encryption_method encryption-method
    request-download-upload sid compression-method encryption-method memory-address memory-size

  -- mod.rs 995-1034
  abbrev pub transfer-data : ℕ → Option (List ℕ) → Async (Option (List ℕ))
  transfer-data block-sequence-counter data' = do
    let buf = block-sequence-counter ∷ extended data'
    r ← request-response 0x36 none (some buf)
    let minimum : ℕ = cond (is_none data') 3 2
    r ← validate-response-length r minimum none
    resp ← data_of r
    return_if (is_empty resp) (invalid-response-length r.payload 2 none)
    actual ← index resp 0
    return_if (config.strict && actual ≠ block-sequence-counter) (deviation r (InvalidBlockSequenceCounter block-sequence-counter actual))
    if_else (ltb 1 (length resp)) (do d ← slice_from resp 1; Ok (some d)) (Ok none)

  -- mod.rs 1037-1048
  abbrev pub request-transfer-exit : Option (List ℕ) → Async (Option (List ℕ))
  request-transfer-exit data' = do
    r ← request-response 0x37 none data'
    resp ← data_of r
    if_else (not (is_empty resp)) (Ok (some resp)) (Ok none)
