-- At most one answer fits the contracts of `ask_of`, of `laid_in` and of `recorded_in`.
use Rattle.std.specs.Prelude as code
use Rattle.std.specs.Prelude.{Some, None}
use Prim.Native.Nat.{ℕ}
use mathlib.Core.Bool.{true≢false}
use mathlib.Core.List.{List, []}
use mathlib.Core.Option.{Option, none, some}
use mathlib.Core.Path.{◌≡◌, refl, ◌∙◌, sym, ap}
use Rattle.rules.specs.Calls as rules
use Rattle.rules.specs.Calls.{given}
use Rattle.rules.specs.Events as events
use Rattle.rules.specs.Logs as logs
use Rattle.rules.specs.Settings.{Setting}
use Rattle.exchange.specs.Meaning.{option_of, form_of}
use Rattle.exchange.specs.declared.types.Form.{Form}
use Rattle.exchange.specs.declared.types.Form.TheVariants.{Plain, Addressed}
use Rattle.requests.specs.declared.Call.{Call}
use Rattle.requests.specs.declared.Call.TheVariants as call
use Rattle.requests.specs.declared.Data.{Data}
use Rattle.requests.specs.declared.Data.TheVariants.{Absent, Present}
use Rattle.requests.specs.Meaning.{data_of, call_from}
use Rattle.calls.specs.Meaning.{setting_of}
use Rattle.calls.specs.declared.Ask.{Ask}
use Rattle.logs.specs.declared.header.Header.{Header}
use Rattle.logs.proofs.Layouts.{said-once}
use Rattle.log_call.specs.Asking.{session_of, Asks, AskedBy, LaidIn, RecordedIn}

-- The code's call is given back by what it means.
abbrev sub_from : Option ℕ → code.Option ℕ
sub_from none = None
sub_from (some s) = Some s

abbrev data_from : Option (List ℕ) → Data
data_from none = Absent
data_from (some d) = Present

abbrev overall_from : Option ℕ → code.Option ℕ
overall_from none = None
overall_from (some t) = Some t

abbrev limit_from : Option ℕ → code.Option ℕ
limit_from none = None
limit_from (some k) = Some k

abbrev form_from : events.Form → Form
form_from events.plain = Plain
form_from events.addressed = Addressed

abbrev call_back : rules.Call → Call
call_back (rules.request sid sub d) = call.Request sid (sub_from sub) (data_from d)
call_back (rules.session sub) = call.DiagnosticSessionControl sub
call_back (rules.reset sub) = call.EcuReset sub
call_back (rules.security sub d) = call.SecurityAccess sub (data_from d)
call_back rules.tester_present = call.TesterPresent
call_back (rules.read_memory a s) = call.ReadMemoryByAddress
call_back (rules.write_memory a s d) = call.WriteMemoryByAddress
call_back (rules.read_identifier id) = call.ReadDataByIdentifier id
call_back (rules.write_identifier id d) = call.WriteDataByIdentifier id
call_back (rules.fault_count mask) = call.ReadDTCInformation mask
call_back (rules.routine sub id d) = call.RoutineControl sub id (data_from d)
call_back (rules.download c e a s) = call.RequestDownload c e
call_back (rules.upload c e a s) = call.RequestUpload c e
call_back (rules.transfer counter d) = call.TransferData counter (data_from d)
call_back (rules.transfer_exit d) = call.RequestTransferExit (data_from d)
call_back (rules.fault_list mask) = call.ReadDTCInformationDTC mask

sub_back : (s : code.Option ℕ) → sub_from (option_of s) ≡ s
sub_back None = refl
sub_back (Some s) = refl

data-back : (p : Data) → data_from (data_of p []) ≡ p
data-back Absent = refl
data-back Present = refl

overall-back : (t : code.Option ℕ) → overall_from (option_of t) ≡ t
overall-back None = refl
overall-back (Some t) = refl

limit-back : (k : code.Option ℕ) → limit_from (option_of k) ≡ k
limit-back None = refl
limit-back (Some k) = refl

form-back : (f : Form) → form_from (form_of f) ≡ f
form-back Plain = refl
form-back Addressed = refl

call_back_lem : (k : Call) → call_back (call_from k (given []) (given []) []) ≡ k
call_back_lem (call.Request sid sub p) = λ i. call.Request sid (sub_back sub i) (data-back p i)
call_back_lem (call.DiagnosticSessionControl sub) = refl
call_back_lem (call.EcuReset sub) = refl
call_back_lem (call.SecurityAccess sub p) = ap (call.SecurityAccess sub) (data-back p)
call_back_lem call.TesterPresent = refl
call_back_lem call.ReadMemoryByAddress = refl
call_back_lem call.WriteMemoryByAddress = refl
call_back_lem (call.ReadDataByIdentifier id) = refl
call_back_lem (call.WriteDataByIdentifier id) = refl
call_back_lem (call.ReadDTCInformation mask) = refl
call_back_lem (call.RoutineControl sub id p) = ap (call.RoutineControl sub id) (data-back p)
call_back_lem (call.RequestDownload c e) = refl
call_back_lem (call.RequestUpload c e) = refl
call_back_lem (call.TransferData counter p) = ap (call.TransferData counter) (data-back p)
call_back_lem (call.RequestTransferExit p) = ap call.RequestTransferExit (data-back p)
call_back_lem (call.ReadDTCInformationDTC mask) = refl

-- What sound fields ask is one call, made in one way.
pub asks-unique : {h : logs.Header} {r r' : Ask} → Asks h r → Asks h r' → r ≡ r'
asks-unique {h} {r} {r'} k k' =
    let made : setting_of r (session_of h) ≡ setting_of r' (session_of h) = k.setting ∙ sym k'.setting in
    let calls = sym (call_back_lem r.call) ∙ ap call_back (k.call (given []) (given []) [] ∙ sym (k'.call (given []) (given []) [])) ∙ call_back_lem r'.call in
    let stricts = k.strict ∙ sym k'.strict in
    let quiets = ap (λ (w : Setting). w.quiet) made in
    let servers = ap (λ (w : Setting). w.server_timing) made in
    let overalls = sym (overall-back r.overall) ∙ ap (λ (w : Setting). overall_from w.overall) made ∙ overall-back r'.overall in
    let limits = sym (limit-back r.limit) ∙ ap (λ (w : Setting). limit_from w.limit) made ∙ limit-back r'.limit in
    let forms = sym (form-back r.channel.form) ∙ ap form_from (k.form ∙ sym k'.form) ∙ form-back r'.channel.form in
    let listens = k.listens ∙ sym k'.listens in
    let channels : r.channel ≡ r'.channel = λ i. record { form = forms i; listens = listens i } in
    λ i. record { call = calls i; quiet = quiets i; strict = stricts i; server = servers i; overall = overalls i; limit = limits i; channel = channels i }

-- `ask_of`
pub unique : (h : logs.Header) (r r' : (code.Option Ask)) → AskedBy h r → AskedBy h r' → r ≡ r'
unique h (Some r) (Some r') k k' = ap Some (asks-unique k.1 k'.1)
unique h (Some r) None k k' = absurd (true≢false (sym k.0 ∙ k'))
unique h None (Some r') k k' = absurd (true≢false (sym k'.0 ∙ k))
unique h None None k k' = refl

-- `laid_in`
pub laid-unique : (l : List ℕ) (r r' : (code.Option Header)) → LaidIn l r → LaidIn l r' → r ≡ r'
laid-unique l (Some h) (Some h') k k' = ap Some (said-once h h' (k.1 ∙ sym k'.1))
laid-unique l (Some h) None k k' = absurd (true≢false (sym k.0 ∙ k'))
laid-unique l None (Some h) k k' = absurd (true≢false (sym k'.0 ∙ k))
laid-unique l None None k k' = refl

-- `recorded_in`
pub recorded-unique : (l : List ℕ) (r r' : code.Option (Header × Ask)) → RecordedIn l r → RecordedIn l r' → r ≡ r'
recorded-unique l (Some (h, r)) (Some (h', r')) k k' =
    let same : h ≡ h' = said-once h h' (k.1 ∙ sym k'.1) in
    let asks : r ≡ r' = asks-unique k.2 (rw (← same) at k'.2) in
    λ i. Some (same i, asks i)
recorded-unique l (Some (h, r)) None k k' = absurd (true≢false (sym k.0 ∙ k'))
recorded-unique l None (Some (h, r)) k k' = absurd (true≢false (sym k'.0 ∙ k))
recorded-unique l None None k k' = refl
