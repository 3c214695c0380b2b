-- The layouts: document 01's requests and strict positives are the standard's, for the arguments named here.
use Rattle.std.specs.Prelude.{ℕ, ◌+◌, ◌*◌, ◌%◌, ◌^◌, ◌≤◌, ◌<◌, Bool, true, cond, ◌≡◌, ◌≢◌, ◌↔◌, List, [], ◌∷◌, ◌++◌, eqb, length, take, drop}
use Rattle.std.proofs.Math.Option.{Option, none, some}
use Rattle.rules.specs.Answers.{Part, negative}
use Rattle.rules.specs.Blocks.{block, counter, carried}
use Rattle.rules.specs.Bytes.{value, every, is_byte}
use Rattle.rules.specs.Calls.{Call, request, session, reset, security, tester_present, read_memory, write_memory, read_identifier, write_identifier, fault_count, routine, download, upload, transfer, transfer_exit, fault_list, Field, given, alfid, sent, or_none, loads, positive_sid, sid_of, request_of}
use Rattle.rules.specs.Client.{call}
use Rattle.rules.specs.Conversations.{Waiting, Closing}
use Rattle.rules.specs.Demand3.{Refused}
use Rattle.rules.specs.Events.{Event, reply}
use Rattle.rules.specs.Iso as Iso
use Rattle.rules.specs.Positives.{Positive}
use Rattle.rules.specs.Settings.{Setting, Lent, suppressing}

abbrev pub Any : Type 0
Any = Unit {0}

-- An argument of one byte, of two, and of bytes.
abbrev pub U8 : ℕ → Type 0
U8 n = n < 256

abbrev pub U16 : ℕ → Type 0
U16 n = n < 65536

abbrev pub Bytes : List ℕ → Type 0
Bytes l = every is_byte l ≡ true

abbrev pub OfBytes : Field → Type 0
OfBytes (given bs) = Bytes bs
OfBytes (alfid v w wide) = Any

abbrev pub Fields : Field → Field → Type 0
Fields a s = OfBytes a × OfBytes s

-- Call 13 is not told whether it downloads or uploads: data to send is a download's, none an upload's.
abbrev pub direction : Option (List ℕ) → Iso.Direction
direction none = Iso.uploads
direction (some d) = Iso.downloads

-- A row for each call: the standard's service for the same arguments, by whether the sub-function's bit 7 is sent; the ranges that the
-- arguments have as bytes and pairs of bytes; and the record that the standard wants in the request and document 01 does not.
pub record Standard : Type 1 where
  pub service : Bool → Iso.Service
  pub ranges : Type 0
  pub records : Type 0

abbrev pub like : (Bool → Iso.Service) → Type 0 → Type 0 → Standard
like x ranges records = record { service = x; ranges = ranges; records = records }

-- (Call 0 is any service, and the layouts do not speak of it.)
abbrev pub standard : Call → Standard
standard (request sid sub d) = like (λ q. Iso.RequestTransferExit (or_none d)) ⊥ ⊥
standard (session sub) = like (λ q. Iso.DiagnosticSessionControl q (sub % 128)) (U8 sub) Any
standard (reset sub) = like (λ q. Iso.ECUReset q (sub % 128)) (U8 sub) Any
standard (security sub d) =
    like (λ q. cond (eqb (sub % 2) 1) (Iso.RequestSeed q (sub % 128) (or_none d)) (Iso.SendKey q (sub % 128) (or_none d))) (U8 sub × Bytes (or_none d))
    (sub % 2 ≢ 1 → d ≢ some [])
standard tester_present = like Iso.TesterPresent Any Any
standard (read_memory a s) = like (λ q. Iso.ReadMemoryByAddress (sent a) (sent s)) (Fields a s) Any
standard (write_memory a s d) = like (λ q. Iso.WriteMemoryByAddress (sent a) (sent s) d) (Fields a s × Bytes d) (length d ≡ value (sent s))
standard (read_identifier id) = like (λ q. Iso.ReadDataByIdentifier id) (U16 id) Any
standard (write_identifier id d) = like (λ q. Iso.WriteDataByIdentifier id d) (U16 id × Bytes d) (1 ≤ length d)
standard (fault_count mask) = like (λ q. Iso.ReportNumberOfDTCByStatusMask q mask) (U8 mask) Any
standard (routine sub id d) = like (λ q. Iso.RoutineControl q (sub % 128) id (or_none d)) (U8 sub × U16 id × Bytes (or_none d)) Any
standard (download c e a s) = like (λ q. Iso.RequestDownload c e (sent a) (sent s)) (Fields a s) Any
standard (upload c e a s) = like (λ q. Iso.RequestUpload c e (sent a) (sent s)) (Fields a s) Any
standard (transfer k d) = like (λ q. Iso.TransferData (direction d) k (or_none d)) (U8 k × Bytes (or_none d)) Any
standard (transfer_exit d) = like (λ q. Iso.RequestTransferExit (or_none d)) (Bytes (or_none d)) Any
standard (fault_list mask) = like (λ q. Iso.ReportDTCByStatusMask q mask) (U8 mask) Any

abbrev pub service : Setting → Call → Iso.Service
service w c = (standard c).service (suppressing w c)

abbrev pub InRange : Call → Type 0
InRange c = (standard c).ranges

abbrev pub Recorded : Call → Type 0
Recorded c = (standard c).records

-- What document 01's strict positive wants and the standard does not: of calls 11 and 12 "a value of 3 up to 2^64 − 1".
abbrev pub Beyond : Call → List ℕ → Type 0
Beyond c d = loads c ≡ true → (3 ≤ value d) × (value d < 2 ^ 64)

-- A reply r with data d is a row of document 01's table.
abbrev pub IsRow : Call → List ℕ → List ℕ → Type 0
IsRow c r d = (head : List ℕ) × Positive c head d × (r ≡ head ++ d)

-- Call 13 for block k of a download.
abbrev pub transfer_of : List ℕ → ℕ → ℕ → Call
transfer_of bytes n k = transfer (counter k) (some (block bytes n k))

-- What a call leaves at the front of the request buffer, unless it is refused, is the standard's request; the rest keeps its bytes.
-- The replies are of bytes (a call with others is refused). The notices and the negative closing are the standard's negative responses,
-- to the request as sent: those with response_pending, which is all that a conversation may hold before its closing, and those with another code. A block's transfer is
-- within the block length that it was cut by, and uses it up unless it is the last.
pub record Layouts : Type 0 where
  pub requests : (strict : Bool) (w : Setting) (c : Call) (l : Lent) → InRange c → Recorded c → ¬ Refused (call strict w c l).answer.outcome →
      let n = length (request_of w.quiet c) in
      let left = (call strict w c l).buffer in
      Iso.Request (service w c) (take n left) × (drop n left ≡ drop n l.buffer)
  pub positives : (w : Setting) (c : Call) → InRange c → (r d : List ℕ) → Iso.Message r → IsRow c r d ↔ (Iso.Response (service w c) r d × Beyond c d)
  pub positive-sid : (sid : ℕ) → sid < 256 → positive_sid sid ≡ Iso.response_sid sid
  pub negatives : (w : Setting) (c : Call) (notices : List ℕ) (p : Part) (code : ℕ) → Iso.Message p.bytes
      → Closing w c notices p (negative code) ↔ (Iso.NegativeResponse (request_of w.quiet c) code p.bytes × (code ≢ Iso.response_pending))
  pub notices : (w : Setting) (c : Call) (t : ℕ) (p : Part) (es : List Event) (times : List ℕ) → Iso.Message p.bytes
      → Waiting (sid_of c) (reply t p ∷ es) times
      ↔ ((later : List ℕ) × (times ≡ t ∷ later) × Iso.NegativeResponse (request_of w.quiet c) Iso.response_pending p.bytes × Waiting (sid_of c) es later)
  pub blocks : (w : Setting) (bytes : List ℕ) (n k : ℕ) → Bytes bytes → 3 ≤ n → k * carried n < length bytes →
      let c = transfer_of bytes n k in
      let r = request_of w.quiet c in
      Iso.Request (service w c) r × Iso.WithinBlockLength n r × ((k + 1) * carried n < length bytes → length r ≡ n)
  -- And a request that is longer by a byte is not.
  pub no_more : (n : ℕ) (r : List ℕ) → length r ≡ n + 1 → ¬ Iso.WithinBlockLength n r
