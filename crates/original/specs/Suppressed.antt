-- suppressed.rs: the view that sets bit 7; its other functions are the client's, by `Deref`.
use Rattle.std.specs.Prelude.{ℕ, List, [], ◌∷◌}
use Rattle.std.proofs.Math.Option.{Option, none, some}
use Rattle.std.specs.Int.Bits.{bit_or}
use Rattle.rules.specs.Events.{Event}
use Rattle.rules.specs.Settings.{Timing}
use Rattle.original.specs.Rust.{◌>>=◌, ◌>>◌}
use Rattle.original.specs.Client

-- `sub_function.map(|value| value | 0x80)` (suppressed.rs 38)
abbrev pub with_bit : Option ℕ → Option ℕ
with_bit none = none
with_bit (some value) = some (bit_or value 0x80)

module _ (config : Client.UDSConfig) (adapter : List Event) where
  -- suppressed.rs 31-40
  abbrev pub request : ℕ → Option ℕ → Option (List ℕ) → Client.Async (Client.RequestOutcome (List ℕ))
  request sid sub-function data' = Client.request config adapter sid (with_bit sub-function) data'

  -- suppressed.rs 43-51
  abbrev pub diagnostic-session-control : ℕ → Client.Async (Option Timing)
  diagnostic-session-control session-type = Client.diagnostic-session-control config adapter (bit_or session-type 0x80)

  -- suppressed.rs 54-57
  abbrev pub ecu-reset : ℕ → Client.Async (Option ℕ)
  ecu-reset reset-type = Client.ecu-reset config adapter (bit_or reset-type 0x80)

  -- suppressed.rs 61-70
  abbrev pub security-access : ℕ → Option (List ℕ) → Client.Async (Option (List ℕ))
  security-access access-type data' = Client.security-access config adapter (bit_or access-type 0x80) data'

  -- suppressed.rs 73-82
  abbrev pub tester-present : Client.Async (Unit {0})
  tester-present = do
    outcome ← Client.request-exchange config adapter 0x3e (some 0x80) none
    Client.on_outcome config adapter outcome (λ r. do r ← Client.validate-response-length config adapter r 2 (some 2); Client.Ok tt) (Client.Ok tt)

  -- suppressed.rs 86-105
  abbrev pub read-dtc-information-number-of-dtc-by-status-mask : ℕ → Client.Async (Option (ℕ × ℕ × ℕ))
  read-dtc-information-number-of-dtc-by-status-mask mask = do
    outcome ← Client.request-exchange config adapter 0x19 (some (bit_or 1 0x80)) (some (mask ∷ []))
    Client.on_outcome config adapter outcome
        (λ r. do report ← Client.parse-dtc-report-number-by-status-mask config adapter r; Client.Ok (some report))
        (Client.Ok none)

  -- suppressed.rs 108-122
  abbrev pub routine-control : ℕ → ℕ → Option (List ℕ) → Client.Async (Option (List ℕ))
  routine-control routine-control-type routine-identifier data' =
      Client.routine-control config adapter (bit_or routine-control-type 0x80) routine-identifier data'
