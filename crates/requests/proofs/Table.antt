-- A code's row is `rules`' row of the call, whatever stands beside it.
use Rattle.std.specs.Prelude as code
use Rattle.std.specs.Prelude.{Some, None}
use Prim.Native.Nat.{ℕ}
use mathlib.Core.Bool.{Bool, true, false}
use mathlib.Core.List.{List}
use mathlib.Core.Path.{◌≡◌, refl, ap}
use Rattle.exchange.specs.Meaning as exchange
use Rattle.rules.specs.Calls as rules
use Rattle.rules.specs.Calls.{Field, table, sid_of, with_bit7}
use Rattle.rules.specs.Refusals.{arguments}
use Rattle.requests.specs.declared.Data.TheVariants.{Absent, Present}
use Rattle.requests.specs.declared.Call.{Call}
use Rattle.requests.specs.declared.Call.TheVariants as call
use Rattle.requests.specs.Meaning.{call_from}
use Rattle.requests.specs.Parameters.{bit7}
use Rattle.requests.specs.Rows.{row_of, row_means, refusing}

module _ (a s : Field) (d : List ℕ) where
  pub same_row : (k : Call) → table (call_from k a s d) ≡ row_means (row_of k) a s d
  same_row (call.Request sid sub p) = refl
  same_row (call.DiagnosticSessionControl sub) = refl
  same_row (call.EcuReset sub) = refl
  same_row (call.SecurityAccess sub p) = refl
  same_row call.TesterPresent = refl
  same_row call.ReadMemoryByAddress = refl
  same_row call.WriteMemoryByAddress = refl
  same_row (call.ReadDataByIdentifier id) = refl
  same_row (call.WriteDataByIdentifier id) = refl
  same_row (call.ReadDTCInformation mask) = refl
  same_row (call.RoutineControl sub id p) = refl
  same_row (call.RequestDownload c e) = refl
  same_row (call.RequestUpload c e) = refl
  same_row (call.TransferData counter p) = refl
  same_row (call.RequestTransferExit p) = refl
  same_row (call.ReadDTCInformationDTC mask) = refl

  pub same-arguments : (k : Call) → arguments (call_from k a s d) ≡ refusing (row_of k).takes a s
  same-arguments (call.Request sid sub p) = refl
  same-arguments (call.DiagnosticSessionControl sub) = refl
  same-arguments (call.EcuReset sub) = refl
  same-arguments (call.SecurityAccess sub Absent) = refl
  same-arguments (call.SecurityAccess sub Present) = refl
  same-arguments call.TesterPresent = refl
  same-arguments call.ReadMemoryByAddress = refl
  same-arguments call.WriteMemoryByAddress = refl
  same-arguments (call.ReadDataByIdentifier id) = refl
  same-arguments (call.WriteDataByIdentifier id) = refl
  same-arguments (call.ReadDTCInformation mask) = refl
  same-arguments (call.RoutineControl sub id p) = refl
  same-arguments (call.RequestDownload c e) = refl
  same-arguments (call.RequestUpload c e) = refl
  same-arguments (call.TransferData counter p) = refl
  same-arguments (call.RequestTransferExit p) = refl
  same-arguments (call.ReadDTCInformationDTC mask) = refl

  pub number_is : (k : Call) → rules.numbered (call_from k a s d) ≡ (row_of k).number
  number_is k = ap (λ r. r.number) (same_row k)

  pub sid-is : (k : Call) → sid_of (call_from k a s d) ≡ (row_of k).sid
  sid-is k = ap (λ r. r.sid) (same_row k)

  pub sub_is : (k : Call) → rules.sub_of (call_from k a s d) ≡ exchange.option_of (row_of k).sub
  sub_is k = ap (λ r. r.sub) (same_row k)

-- The sub-function as it is sent.
pub sent-sub : (quiet : Bool) (s : code.Option ℕ) → exchange.option_of (bit7 quiet s) ≡ with_bit7 quiet (exchange.option_of s)
sent-sub quiet None = refl
sent-sub true (Some s) = refl
sent-sub false (Some s) = refl
