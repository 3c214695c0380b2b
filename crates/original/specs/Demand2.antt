-- Demand 2: "On every call and event list in document 01's domain, the request bytes and the outcome equal the Rust's."
use Rattle.std.specs.Prelude.{ℕ, ◌^◌, ◌≤◌, ◌<◌, Bool, true, false, ◌≡◌, [], length}
use Rattle.std.proofs.Math.Option.{Option, none, some}
use Rattle.rules.specs.Bytes.{every, is_byte}
use Rattle.rules.specs.Calls.{Field, given, alfid, Call, request, session, reset, security, tester_present, read_memory, write_memory, read_identifier}
use Rattle.rules.specs.Calls.{write_identifier, fault_count, routine, download, upload, transfer, transfer_exit, fault_list, request_of}
use Rattle.rules.specs.Client.{call, events_in}
use Rattle.rules.specs.Events.{within_limits}
use Rattle.rules.specs.Refusals.{arguments}
use Rattle.rules.specs.Settings.{Setting, Lent}
use Rattle.rules.proofs.Judging.{Pass}
use Rattle.original.specs.Rust.{world, Run}
use Rattle.original.specs.Client.{UDSConfig}
use Rattle.original.specs.Shown.{Fail, Given, shown, called, invoke}

-- Arguments of the Rust's types, where it matters: a sub-function is a u8, a field bytes or a u64 (without the wide setting, which is not the
-- Rust's).
abbrev pub IsU8 : Option ℕ → Type 0
IsU8 none = Unit {0}
IsU8 (some s) = s < 256

abbrev pub Typed : Field → Type 0
Typed (given bs) = every is_byte bs ≡ true
Typed (alfid v w wide) = (v < 2 ^ 64) × (wide ≡ false)

abbrev pub InRust : Call → Type 0
InRust (request sid sub d) = IsU8 sub
InRust (session sub) = sub < 256
InRust (reset sub) = sub < 256
InRust (security sub d) = sub < 256
InRust tester_present = Unit {0}
InRust (read_memory a s) = Typed a × Typed s
InRust (write_memory a s d) = Typed a × Typed s
InRust (read_identifier id) = Unit {0}
InRust (write_identifier id d) = Unit {0}
InRust (fault_count mask) = Unit {0}
InRust (routine sub id d) = sub < 256
InRust (download c e a s) = Typed a × Typed s
InRust (upload c e a s) = Typed a × Typed s
InRust (transfer counter d) = Unit {0}
InRust (transfer_exit d) = Unit {0}
InRust (fault_list mask) = ⊥

-- Document 01's domain: none of the refusals that the port adds (8 and 9, where the arguments are not refused; 10), no limit of notices, a call of
-- the Rust.
pub record Domain (w : Setting) (c : Call) (l : Lent) : Type 0 where
  pub typed : InRust c
  pub unlimited : w.limit ≡ none
  pub fits : Pass (arguments c) → (length (request_of w.quiet c) ≤ 4095) × (length (request_of w.quiet c) ≤ length l.buffer)
  pub events : within_limits l.form l.events l.replies ≡ true

-- The client as it stands: its configuration, and P2 and P2* in the session.
abbrev pub config_of : Bool → Setting → UDSConfig
config_of strict w = record { request-timeout = w.overall; use-server-timing = w.server_timing; strict = strict }

-- What the Rust gives to a call in such a setting, on such events, told in document 01's terms.
abbrev pub of_rust : Bool → Setting → Call → Lent → Run Fail Given
of_rust strict w c l = shown (invoke (config_of strict w) (events_in l) w.quiet c (world 0 [] w.timing))

-- Outcome, finishing time, data or number, deviation with its reply, session timing afterwards, bytes sent; and a panic or an error before sending
-- where the port refuses with 1 to 7.
abbrev pub Demand2 : Type 0
Demand2 = (strict : Bool) (w : Setting) (c : Call) (l : Lent) → Domain w c l → of_rust strict w c l ≡ called c (call strict w c l)
