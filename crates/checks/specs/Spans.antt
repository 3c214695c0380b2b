-- The data that a call hands out of a reply, as the code counts it: so many bytes passed over, and at most so many behind them.
use Rattle.std.specs.Prelude.{ℕ, ◌+◌, ◌-◌, ◌*◌, ◌/◌, ◌%◌, cond, List, eqb, length, drop}
use Rattle.rules.specs.After.{length_bytes}
use Rattle.rules.specs.Calls.{head}
use Rattle.exchange.specs.Meaning.{option_of}
use Rattle.requests.specs.declared.Call.{Call}
use Rattle.requests.specs.declared.Call.TheVariants as call
use Rattle.checks.specs.declared.handed.Span.{Span}

abbrev pub span : ℕ → ℕ → Span
span skip count = record { 0 = skip; 1 = count }

-- n bytes, if exactly n follow SID and sub-function, and else none.
abbrev pub only : ℕ → List ℕ → ℕ
only n r = cond (eqb (length (drop 2 r)) n) n 0

-- A byte behind SID and sub-function, and the whole fours behind it.
abbrev pub unbroken : List ℕ → ℕ
unbroken r = (length (drop 2 r) - 1) / 4 * 4 + 1

abbrev pub span_of : Call → List ℕ → Span
span_of (call.Request sid sub p) r = span (head (option_of sub)) (length r)
span_of (call.DiagnosticSessionControl sub) r = span 2 (only 4 r)
span_of (call.EcuReset sub) r = span 2 (only 1 r)
span_of (call.SecurityAccess sub p) r = span 2 (cond (eqb (sub % 2) 1) (length r) 0)
span_of call.TesterPresent r = span 2 0
span_of call.ReadMemoryByAddress r = span 1 (length r)
span_of call.WriteMemoryByAddress r = span 1 (length r)
span_of (call.ReadDataByIdentifier id) r = span 3 (length r)
span_of (call.WriteDataByIdentifier id) r = span 3 0
span_of (call.ReadDTCInformation mask) r = span 2 4
span_of (call.RoutineControl sub id p) r = span 4 (length r)
span_of (call.RequestDownload c e) r = span 2 (length_bytes r)
span_of (call.RequestUpload c e) r = span 2 (length_bytes r)
span_of (call.TransferData counter p) r = span 2 (length r)
span_of (call.RequestTransferExit p) r = span 1 (length r)
span_of (call.ReadDTCInformationDTC mask) r = span 2 (unbroken r)
