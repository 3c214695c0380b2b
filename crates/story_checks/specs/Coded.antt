-- The checks of a call as the code lists them: a row of numbers.
use Rattle.std.specs.Prelude.{ℕ, ◌+◌, ◌-◌, ◌*◌, ◌/◌, ◌%◌, Bool, true, false, cond, List, [], ◌∷◌, ◌++◌, leb, eqb}
use Rattle.std.proofs.Math.Option.{Option, none, some}
use Rattle.rules.specs.After.{reset_length, length_bytes}
use Rattle.rules.specs.Answers.{Fault, deviation, deviation8, bad_length, overflow, Outcome, positive, suppressed, negative, timeout, pending_limit, disconnected, transport, fault, refused, if_positive}
use Rattle.requests.specs.declared.Call.{Call}
use Rattle.requests.specs.declared.Call.TheVariants as call
use Rattle.requests.specs.declared.Data.{Data}
use Rattle.requests.specs.declared.Data.TheVariants.{Absent, Present}
use Rattle.story_checks.specs.declared.Check.{Check}
use Rattle.story_checks.specs.declared.Check.TheVariants as check
use Rattle.telling.specs.Checks.{wanted_by, length?, check_line, lenient_text}

-- A check by the fault that it finds: a deviation's number, 16 for a value above 64 bits; a length from 32 on, twice the least, and one more where that is the most too.
abbrev pub at_least : ℕ → ℕ
at_least n = n * 2 + 32

abbrev pub exactly : ℕ → ℕ
exactly n = n * 2 + 33

-- A check's own number.
abbrev pub number : Check → ℕ
number (check.AtLeast n) = at_least n
number (check.Exactly n) = exactly n
number check.WholeRecords = 17
number check.Identifier = 5
number check.Routine = 6
number check.Counter = 7
number check.LengthFormat = 9
number check.HalfByte = 10
number check.BlockLength = 11
number check.Overflow = 16
number check.Format = 12
number check.Address = 13
number check.Size = 14
number check.Memory = 15

abbrev pub odd_of : Option ℕ → ℕ
odd_of none = 0
odd_of (some most) = 1

abbrev pub coded : Fault → ℕ
coded (deviation n) = n
coded (deviation8 least none) = at_least least
coded (deviation8 least (some most)) = exactly least
coded bad_length = 0
coded overflow = 16

abbrev pub bounds : ℕ → ℕ → List ℕ
bounds least odd = length? least (cond (eqb odd 0) none (some least))

unfoldable pub wanted_of : ℕ → List ℕ
wanted_of k = cond (leb 32 k) (bounds ((k - 32) / 2) (k % 2)) (wanted_by k)

-- What the checks made of a reply: the number of the one that failed; 1 is no check's.
abbrev pub failed_in : Outcome → ℕ
failed_in (positive p) = 1
failed_in suppressed = 1
failed_in (negative c) = 1
failed_in timeout = 1
failed_in pending_limit = 1
failed_in disconnected = 1
failed_in (transport n) = 1
failed_in (fault f) = coded f
failed_in (refused n) = 1

-- The number of the fault that a check finds: its own. 17, the first of call 15, finds that of a length of 3 or more.
abbrev pub finding : ℕ → ℕ
finding k = cond (eqb k 17) (at_least 3) k

-- The lines of a row of checks, of which this fault was found.
unfoldable pub told_by : List ℕ → ℕ → List ℕ
told_by [] failed = []
told_by (k ∷ ks) failed = cond (eqb (finding k) failed) (check_line (wanted_of k) false) (check_line (wanted_of k) true ++ told_by ks failed)

abbrev pub transferred : Data → ℕ
transferred Absent = 3
transferred Present = 2

abbrev pub security_code : ℕ → ℕ
security_code sub = cond (eqb (sub % 2) 1) (at_least 3) (exactly 2)

-- The row of each call, by the lengths of address and size and the number of bytes that a reply to calls 11 and 12 announces.
unfoldable pub codes_of : Call → ℕ → ℕ → ℕ → List ℕ
codes_of (call.Request sid sub p) a s n = []
codes_of (call.DiagnosticSessionControl sub) a s n = exactly 6 ∷ []
codes_of (call.EcuReset sub) a s n = exactly (reset_length sub) ∷ []
codes_of (call.SecurityAccess sub p) a s n = security_code sub ∷ []
codes_of call.TesterPresent a s n = exactly 2 ∷ []
codes_of call.ReadMemoryByAddress a s n = 15 ∷ at_least 2 ∷ []
codes_of call.WriteMemoryByAddress a s n = exactly (2 + a + s) ∷ 12 ∷ 13 ∷ 14 ∷ []
codes_of (call.ReadDataByIdentifier id) a s n = at_least 4 ∷ at_least 3 ∷ 5 ∷ []
codes_of (call.WriteDataByIdentifier id) a s n = exactly 3 ∷ at_least 3 ∷ 5 ∷ []
codes_of (call.ReadDTCInformation mask) a s n = exactly 6 ∷ []
codes_of (call.RoutineControl sub id p) a s n = at_least 4 ∷ 6 ∷ []
codes_of (call.RequestDownload c e) a s n = at_least 2 ∷ 10 ∷ 9 ∷ exactly (n + 2) ∷ 11 ∷ 16 ∷ []
codes_of (call.RequestUpload c e) a s n = at_least 2 ∷ 10 ∷ 9 ∷ exactly (n + 2) ∷ 11 ∷ 16 ∷ []
codes_of (call.TransferData counter p) a s n = at_least (transferred p) ∷ at_least 2 ∷ 7 ∷ []
codes_of (call.RequestTransferExit p) a s n = []
codes_of (call.ReadDTCInformationDTC mask) a s n = 17 ∷ at_least 3 ∷ []

-- What is told of a reply that was heard as a positive. Where `after` is what the checks made of it, this is `checks_text` of `telling`.
abbrev pub checks_by : Bool → Call → ℕ → ℕ → List ℕ → Outcome → Outcome → List ℕ
checks_by true k a s r heard after = if_positive heard (λ p. told_by (codes_of k a s (length_bytes r)) (failed_in after)) []
checks_by false k a s r heard after = if_positive heard (λ p. lenient_text after) []
