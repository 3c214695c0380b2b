-- Document 01, "Refusal numbers": each given exactly when its test fails, in the order stated there.
use Rattle.std.specs.Prelude.{ℕ, ◌%◌, ◌^◌, Bool, cond, ◌&&◌, List, [], ◌∷◌, ◌++◌, leb, ltb, eqb, length}
use Rattle.std.proofs.Math.Option.{Option, none, some}
use Rattle.rules.specs.Calls.{Call, request, session, reset, security, tester_present, read_memory, write_memory, read_identifier, write_identifier, fault_count, routine, download, upload, transfer, transfer_exit, fault_list, Field, given, alfid, sent}
use Rattle.rules.specs.InOrder.{Check, unless}
use Rattle.rules.specs.Events.{Form, within_limits}

abbrev pub between : ℕ → ℕ → ℕ → Bool
between least most n = leb least n && leb n most

-- Document 02, request Three: "With a new wide setting, widths 1 to 15 are taken".
abbrev pub widest : Bool → ℕ
widest wide = cond wide 15 8

-- 6: "a width outside 1..8", or "outside 1..15 under the setting"; 7: "the value needs more bytes than its width"
abbrev pub width : Field → List (Check ℕ)
width (given bs) = []
width (alfid v w wide) = unless (between 1 (widest wide) w) 6 ∷ unless (ltb v (256 ^ w)) 7 ∷ []

-- 4, 5: "compression, encryption method above 15"
abbrev pub methods : ℕ → ℕ → List (Check ℕ)
methods c e = unless (leb c 15) 4 ∷ unless (leb e 15) 5 ∷ []

-- 2, 3: "address length, size length outside 1..15"
abbrev pub lengths : Field → Field → List (Check ℕ)
lengths a s = unless (between 1 15 (length (sent a))) 2 ∷ unless (between 1 15 (length (sent s))) 3 ∷ []

-- 1: "call 3, even sub-function, data absent"
abbrev pub key : ℕ → Option (List ℕ) → List (Check ℕ)
key sub none = unless (eqb (sub % 2) 1) 1 ∷ []
key sub (some d) = []

-- "Order: `alfid` address 6, 7, then size 6, 7; 4; 5; 2; 3; 1"
abbrev pub arguments : Call → List (Check ℕ)
arguments (request sid sub d) = []
arguments (session sub) = []
arguments (reset sub) = []
arguments (security sub d) = key sub d
arguments tester_present = []
arguments (read_memory a s) = width a ++ width s ++ lengths a s
arguments (write_memory a s d) = width a ++ width s ++ lengths a s
arguments (read_identifier id) = []
arguments (write_identifier id d) = []
arguments (fault_count mask) = []
arguments (routine sub id d) = []
arguments (download c e a s) = width a ++ width s ++ methods c e ++ lengths a s
arguments (upload c e a s) = width a ++ width s ++ methods c e ++ lengths a s
arguments (transfer counter d) = []
arguments (transfer_exit d) = []
arguments (fault_list mask) = []

-- "8; 9; 10": "request longer than 4,095 bytes", "request buffer shorter than the request", "event list breaks a limit"
abbrev pub refusals : Call → List ℕ → List ℕ → Form → List ℕ → List ℕ → List (Check ℕ)
refusals c message buffer form events replies =
    arguments c ++
    (unless (leb (length message) 4095) 8 ∷
    unless (leb (length message) (length buffer)) 9 ∷
    unless (within_limits form events replies) 10 ∷ [])
