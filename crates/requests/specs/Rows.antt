-- The rows of the code's calls, and what they are in `rules`: its table, and its refusals of arguments.
use Rattle.std.specs.Prelude as code
use Rattle.std.specs.Prelude.{Some, None}
use Rattle.std.specs.Prelude.{ℕ, ◌+◌, ◌*◌, ◌/◌, ◌%◌, Bool, true, false, List, [], ◌∷◌, ◌++◌, eqb}
use Rattle.exchange.specs.Meaning.{option_of}
use Rattle.rules.specs.Calls as rules
use Rattle.rules.specs.Calls.{Field}
use Rattle.rules.specs.InOrder.{Check, unless}
use Rattle.rules.specs.Refusals as refusals
use Rattle.requests.specs.declared.Data.TheVariants.{Absent, Present}
use Rattle.requests.specs.declared.Call.{Call}
use Rattle.requests.specs.declared.Call.TheVariants as call
use Rattle.requests.specs.declared.rows.Numbers.{Numbers}
use Rattle.requests.specs.declared.rows.Numbers.TheVariants.{Empty, One, Two}
use Rattle.requests.specs.declared.rows.Takes.{Takes}
use Rattle.requests.specs.declared.rows.Takes.TheVariants.{Plain, Key, Memory, Load}
use Rattle.requests.specs.declared.rows.Row.{Row}
use Rattle.requests.specs.Meaning.{data_bytes}

-- An identifier: "two bytes, high first".
abbrev pub identifier : ℕ → Numbers
identifier id = Two (id / 256) (id % 256)

abbrev pub entry : ℕ → ℕ → code.Option ℕ → Takes → Row
entry number sid s takes = record { number = number; sid = sid; sub = s; takes = takes }

abbrev pub nothing : Takes
nothing = Plain Empty Absent

abbrev pub row_of : Call → Row
row_of (call.Request sid s p) = entry 0 sid s (Plain Empty p)
row_of (call.DiagnosticSessionControl s) = entry 1 0x10 (Some s) nothing
row_of (call.EcuReset s) = entry 2 0x11 (Some s) nothing
row_of (call.SecurityAccess s p) = entry 3 0x27 (Some s) (Key s p)
row_of call.TesterPresent = entry 4 0x3e (Some 0) nothing
row_of call.ReadMemoryByAddress = entry 5 0x23 None (Memory Absent)
row_of call.WriteMemoryByAddress = entry 6 0x3d None (Memory Present)
row_of (call.ReadDataByIdentifier id) = entry 7 0x22 None (Plain (identifier id) Absent)
row_of (call.WriteDataByIdentifier id) = entry 8 0x2e None (Plain (identifier id) Present)
row_of (call.ReadDTCInformation mask) = entry 9 0x19 (Some 1) (Plain (One mask) Absent)
row_of (call.RoutineControl s id p) = entry 10 0x31 (Some s) (Plain (identifier id) p)
row_of (call.RequestDownload c e) = entry 11 0x34 None (Load c e)
row_of (call.RequestUpload c e) = entry 12 0x35 None (Load c e)
row_of (call.TransferData counter p) = entry 13 0x36 None (Plain (One counter) p)
row_of (call.RequestTransferExit p) = entry 14 0x37 None (Plain Empty p)
row_of (call.ReadDTCInformationDTC mask) = entry 15 0x19 (Some 2) (Plain (One mask) Absent)

abbrev pub numbers_of : Numbers → List ℕ
numbers_of Empty = []
numbers_of (One a) = a ∷ []
numbers_of (Two a b) = a ∷ b ∷ []

-- The parameters that a row takes, by address, size and data; and the first of refusals 1 to 7 that these can have.
abbrev pub taken : Takes → Field → Field → List ℕ → List ℕ
taken (Plain ns p) a s d = numbers_of ns ++ data_bytes p d
taken (Key sub p) a s d = data_bytes p d
taken (Memory Absent) a s d = rules.memory a s
taken (Memory Present) a s d = rules.memory a s ++ d
taken (Load c e) a s d = (c * 16 + e) ∷ rules.memory a s

abbrev pub refusing : Takes → Field → Field → List (Check ℕ)
refusing (Plain ns p) a s = []
refusing (Key sub Absent) a s = unless (eqb (sub % 2) 1) 1 ∷ []
refusing (Key sub Present) a s = []
refusing (Memory p) a s = refusals.width a ++ refusals.width s ++ refusals.lengths a s
refusing (Load c e) a s = refusals.width a ++ refusals.width s ++ refusals.methods c e ++ refusals.lengths a s

-- A row as `rules` has it.
abbrev pub row_means : Row → Field → Field → List ℕ → rules.Row
row_means r a s d = rules.row r.number r.sid (option_of r.sub) (taken r.takes a s d)

-- Calls 5, 6, 11 and 12 take an address and a size.
abbrev pub takes_memory : Takes → Bool
takes_memory (Plain ns p) = false
takes_memory (Key sub p) = false
takes_memory (Memory p) = true
takes_memory (Load c e) = true
