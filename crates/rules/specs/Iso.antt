-- ISO 14229-1:2013: requests, positive responses, negative responses, the suppress bit and response pending, in the standard's names.
-- Written from the standard's facts; nothing of document 01 is imported.
use Rattle.std.specs.Prelude.{ℕ, ◌+◌, ◌*◌, ◌/◌, ◌%◌, ◌≤◌, ◌<◌, Bool, true, cond, ◌≡◌, ◌≢◌, List, [], ◌∷◌, ◌++◌, eqb, length, get_or}
use Rattle.rules.specs.Bytes.{value, bytes_of, every, is_byte}

-- A message is of bytes.
abbrev pub Message : List ℕ → Type 0
Message r = every is_byte r ≡ true

-- §8.2.2: bit 7 is suppressPosRspMsgIndicationBit, bits 6 to 0 are the sub-function value.
abbrev pub sub_function : Bool → ℕ → ℕ
sub_function suppress_pos_rsp v = cond suppress_pos_rsp 128 0 + v

-- The positive response SID is the request SID with bit 6 set.
abbrev pub response_sid : ℕ → ℕ
response_sid sid = cond (eqb (sid / 64 % 2) 1) sid (sid + 64)

-- Two numbers of four bits in a byte: bits 7 to 4, bits 3 to 0.
abbrev pub nibbles : ℕ → ℕ → ℕ
nibbles high low = high * 16 + low

-- §10.3.2: addressAndLengthFormatIdentifier has the number of bytes of memorySize in its high nibble, of memoryAddress in its low one.
abbrev pub memory_fields : List ℕ → List ℕ → List ℕ
memory_fields address size = nibbles (length size) (length address) ∷ address ++ size

abbrev pub Nibble : ℕ → Type 0
Nibble n = n ≤ 15

-- A dataIdentifier or routineIdentifier has two bytes.
abbrev pub Identifier : ℕ → Type 0
Identifier id = id < 65536

-- A field of one to fifteen bytes.
abbrev pub FieldLength : List ℕ → Type 0
FieldLength l = (1 ≤ length l) × (length l ≤ 15)

-- §14.4: TransferData carries data to the server after RequestDownload, from it after RequestUpload.
pub data Direction : Type 0 where
  downloads : Direction
  uploads : Direction

-- The services with their parameters.
pub data Service : Type 0 where
  DiagnosticSessionControl : Bool → ℕ → Service
  ECUReset : Bool → ℕ → Service
  RequestSeed : Bool → ℕ → List ℕ → Service
  SendKey : Bool → ℕ → List ℕ → Service
  TesterPresent : Bool → Service
  ReadMemoryByAddress : List ℕ → List ℕ → Service
  WriteMemoryByAddress : List ℕ → List ℕ → List ℕ → Service
  ReadDataByIdentifier : ℕ → Service
  WriteDataByIdentifier : ℕ → List ℕ → Service
  ReportNumberOfDTCByStatusMask : Bool → ℕ → Service
  ReportDTCByStatusMask : Bool → ℕ → Service
  RoutineControl : Bool → ℕ → ℕ → List ℕ → Service
  RequestDownload : ℕ → ℕ → List ℕ → List ℕ → Service
  RequestUpload : ℕ → ℕ → List ℕ → List ℕ → Service
  TransferData : Direction → ℕ → List ℕ → Service
  RequestTransferExit : List ℕ → Service

-- The request of a service, with the rules of its parameters.
abbrev pub RequestFormat : Service → List ℕ → Type 0
RequestFormat (DiagnosticSessionControl q t) r = (t < 128) × (r ≡ 0x10 ∷ sub_function q t ∷ [])
RequestFormat (ECUReset q t) r = (t < 128) × (r ≡ 0x11 ∷ sub_function q t ∷ [])
RequestFormat (RequestSeed q t d) r = (t < 128) × (t % 2 ≡ 1) × (r ≡ 0x27 ∷ sub_function q t ∷ d)
RequestFormat (SendKey q t key) r = (t < 128) × (t % 2 ≡ 0) × (1 ≤ length key) × (r ≡ 0x27 ∷ sub_function q t ∷ key)
RequestFormat (TesterPresent q) r = r ≡ 0x3e ∷ sub_function q 0x00 ∷ []
RequestFormat (ReadMemoryByAddress a s) r = FieldLength a × FieldLength s × (r ≡ 0x23 ∷ memory_fields a s)
RequestFormat (WriteMemoryByAddress a s d) r = FieldLength a × FieldLength s × (length d ≡ value s) × (r ≡ 0x3d ∷ memory_fields a s ++ d)
RequestFormat (ReadDataByIdentifier id) r = Identifier id × (r ≡ 0x22 ∷ bytes_of 2 id)
RequestFormat (WriteDataByIdentifier id d) r = Identifier id × (1 ≤ length d) × (r ≡ 0x2e ∷ bytes_of 2 id ++ d)
RequestFormat (ReportNumberOfDTCByStatusMask q mask) r = r ≡ 0x19 ∷ sub_function q 0x01 ∷ mask ∷ []
RequestFormat (ReportDTCByStatusMask q mask) r = r ≡ 0x19 ∷ sub_function q 0x02 ∷ mask ∷ []
RequestFormat (RoutineControl q t id d) r = (t < 128) × Identifier id × (r ≡ 0x31 ∷ sub_function q t ∷ bytes_of 2 id ++ d)
RequestFormat (RequestDownload c e a s) r = Nibble c × Nibble e × FieldLength a × FieldLength s × (r ≡ 0x34 ∷ nibbles c e ∷ memory_fields a s)
RequestFormat (RequestUpload c e a s) r = Nibble c × Nibble e × FieldLength a × FieldLength s × (r ≡ 0x35 ∷ nibbles c e ∷ memory_fields a s)
RequestFormat (TransferData way counter d) r = r ≡ 0x36 ∷ counter ∷ d
RequestFormat (RequestTransferExit d) r = r ≡ 0x37 ∷ d

abbrev pub Request : Service → List ℕ → Type 0
Request s r = Message r × RequestFormat s r

-- §14.2.3: lengthFormatIdentifier has the number of bytes of max_number_of_block_length in its high nibble; the low one is reserved, zero.
abbrev pub BlockLength : ℕ → List ℕ → List ℕ → Type 0
BlockLength sid n r = FieldLength n × (r ≡ sid ∷ nibbles (length n) 0 ∷ n)

-- §14.2.3: max_number_of_block_length counts every byte of a TransferData request, the SID and the counter included.
abbrev pub WithinBlockLength : ℕ → List ℕ → Type 0
WithinBlockLength max_number_of_block_length r = length r ≤ max_number_of_block_length

-- §9.3.3: powerDownTime is present only for type 04.
abbrev pub PowerDownTime : ℕ → List ℕ → Type 0
PowerDownTime t d = (t ≡ 0x04 → length d ≡ 1) × (t ≢ 0x04 → d ≡ [])

-- §14.4.3: transferResponseParameterRecord may be absent in a download; in an upload it has at least one byte.
abbrev pub TransferRecord : Direction → List ℕ → Type 0
TransferRecord downloads d = Unit {0}
TransferRecord uploads d = 1 ≤ length d

-- §11.3.3: list_of_dtcand_status_record, of each fault the DTC's high, middle and low byte and its status.
pub record DTCAndStatus : Type 0 where
  pub high : ℕ
  pub middle : ℕ
  pub low : ℕ
  pub status : ℕ

abbrev pub list_of_dtcand_status_record : List DTCAndStatus → List ℕ
list_of_dtcand_status_record [] = []
list_of_dtcand_status_record (x ∷ xs) = x.high ∷ x.middle ∷ x.low ∷ x.status ∷ list_of_dtcand_status_record xs

-- §11.3.3: DTCStatusAvailabilityMask, then zero or more of them.
abbrev pub DTCReport : List ℕ → Type 0
DTCReport d = (availability : ℕ) × (faults : List DTCAndStatus) × (d ≡ availability ∷ list_of_dtcand_status_record faults)

-- The positive response r of a service; d is the record behind its fixed part, empty where it has none.
abbrev pub ResponseFormat : Service → List ℕ → List ℕ → Type 0
ResponseFormat (DiagnosticSessionControl q t) r d = (r ≡ 0x50 ∷ t ∷ d) × (length d ≡ 4)
ResponseFormat (ECUReset q t) r d = (r ≡ 0x51 ∷ t ∷ d) × PowerDownTime t d
ResponseFormat (RequestSeed q t x) r d = (r ≡ 0x67 ∷ t ∷ d) × (1 ≤ length d)
ResponseFormat (SendKey q t key) r d = (r ≡ 0x67 ∷ t ∷ d) × (d ≡ [])
ResponseFormat (TesterPresent q) r d = (r ≡ 0x7e ∷ 0x00 ∷ d) × (d ≡ [])
ResponseFormat (ReadMemoryByAddress a s) r d = (r ≡ 0x63 ∷ d) × (length d ≡ value s) × (1 ≤ length d)
ResponseFormat (WriteMemoryByAddress a s x) r d = (r ≡ 0x7d ∷ d) × (d ≡ memory_fields a s)
ResponseFormat (ReadDataByIdentifier id) r d = (r ≡ 0x62 ∷ bytes_of 2 id ++ d) × (1 ≤ length d)
ResponseFormat (WriteDataByIdentifier id x) r d = (r ≡ 0x6e ∷ bytes_of 2 id ++ d) × (d ≡ [])
ResponseFormat (ReportNumberOfDTCByStatusMask q mask) r d = (r ≡ 0x59 ∷ 0x01 ∷ d) × (length d ≡ 4)
ResponseFormat (ReportDTCByStatusMask q mask) r d = (r ≡ 0x59 ∷ 0x02 ∷ d) × DTCReport d
ResponseFormat (RoutineControl q t id x) r d = r ≡ 0x71 ∷ t ∷ bytes_of 2 id ++ d
ResponseFormat (RequestDownload c e a s) r d = BlockLength 0x74 d r
ResponseFormat (RequestUpload c e a s) r d = BlockLength 0x75 d r
ResponseFormat (TransferData way counter x) r d = (r ≡ 0x76 ∷ counter ∷ d) × TransferRecord way d
ResponseFormat (RequestTransferExit x) r d = r ≡ 0x77 ∷ d

abbrev pub Response : Service → List ℕ → List ℕ → Type 0
Response s r d = Message r × ResponseFormat s r d

-- Every request begins with its SID.
abbrev pub sid_in : List ℕ → ℕ
sid_in request = get_or request 0 0

-- §7.4: "7F, request SID, negative response code; exactly three bytes".
abbrev pub NegativeResponse : List ℕ → ℕ → List ℕ → Type 0
NegativeResponse request code r = Message r × (r ≡ 0x7f ∷ sid_in request ∷ code ∷ [])

-- Annex A.1: requestCorrectlyReceived-ResponsePending.
abbrev pub response_pending : ℕ
response_pending = 0x78
