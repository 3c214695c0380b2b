-- Each case of the enum `Call`, with the slices beside it, as `rules` says it.
use Rattle.std.specs.Prelude.{ℕ, List, []}
use Rattle.std.proofs.Math.Option.{Option, none, some}
use Rattle.exchange.specs.Meaning.{option_of}
use Rattle.rules.specs.Calls as rules
use Rattle.rules.specs.Calls.{Field, given}
use Rattle.requests.specs.declared.Data.{Data}
use Rattle.requests.specs.declared.Data.TheVariants.{Absent, Present}
use Rattle.requests.specs.declared.Call.{Call}
use Rattle.requests.specs.declared.Call.TheVariants as call

-- Data as the code has it: whether it is given, and a slice.
abbrev pub data_of : Data → List ℕ → Option (List ℕ)
data_of Absent d = none
data_of Present d = some d

abbrev pub data_bytes : Data → List ℕ → List ℕ
data_bytes p d = rules.or_none (data_of p d)

-- Address and size in either form, and the data. Calls 6 and 8 always have data.
abbrev pub call_from : Call → Field → Field → List ℕ → rules.Call
call_from (call.Request sid sub p) a s d = rules.request sid (option_of sub) (data_of p d)
call_from (call.DiagnosticSessionControl sub) a s d = rules.session sub
call_from (call.EcuReset sub) a s d = rules.reset sub
call_from (call.SecurityAccess sub p) a s d = rules.security sub (data_of p d)
call_from call.TesterPresent a s d = rules.tester_present
call_from call.ReadMemoryByAddress a s d = rules.read_memory a s
call_from call.WriteMemoryByAddress a s d = rules.write_memory a s d
call_from (call.ReadDataByIdentifier id) a s d = rules.read_identifier id
call_from (call.WriteDataByIdentifier id) a s d = rules.write_identifier id d
call_from (call.ReadDTCInformation mask) a s d = rules.fault_count mask
call_from (call.RoutineControl sub id p) a s d = rules.routine sub id (data_of p d)
call_from (call.RequestDownload c e) a s d = rules.download c e a s
call_from (call.RequestUpload c e) a s d = rules.upload c e a s
call_from (call.TransferData counter p) a s d = rules.transfer counter (data_of p d)
call_from (call.RequestTransferExit p) a s d = rules.transfer_exit (data_of p d)
call_from (call.ReadDTCInformationDTC mask) a s d = rules.fault_list mask

-- The slices that the code lends are address and size as bytes.
abbrev pub call_of : Call → List ℕ → List ℕ → List ℕ → rules.Call
call_of k a s d = call_from k (given a) (given s) d

-- A call with nothing beside it: its number, SID and sub-function, and the data that it hands out, do not depend on what stands beside.
abbrev pub bare : Call → rules.Call
bare k = call_of k [] [] []
