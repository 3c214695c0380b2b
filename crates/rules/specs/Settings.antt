-- What a call is given besides its arguments. Strict is in none of these records: it is an argument of its own everywhere.
use Rattle.std.specs.Prelude.{ℕ, ◌≤◌, Bool, List}
use Rattle.std.proofs.Math.Option.{Option, none, some}
use Rattle.rules.specs.Calls.{Call, sub_of, with_bit7, suppresses}
use Rattle.rules.specs.Events.{Form}

-- "the session record, two numbers that the host lends": P2 and P2*.
pub record Timing : Type 0 where
  pub p2 : ℕ
  pub star : ℕ

-- The session's timing, the overall timeout T, the limit of notices, server timing, and whether the client is the suppressed one.
pub record Setting : Type 0 where
  pub timing : Timing
  pub overall : Option ℕ
  pub limit : Option ℕ
  pub server_timing : Bool
  pub quiet : Bool

-- What is lent: the request buffer, the events and their form, and the reply bytes; and the address that the call listens to.
pub record Lent : Type 0 where
  pub buffer : List ℕ
  pub form : Form
  pub events : List ℕ
  pub replies : List ℕ
  pub listens : ℕ

-- Suppression is bit 7 of the sub-function that is sent, whoever set it.
abbrev pub suppressing : Setting → Call → Bool
suppressing w c = suppresses (with_bit7 w.quiet (sub_of c))

-- So many notices, at most K where there is a limit.
abbrev pub Within : Option ℕ → ℕ → Type 0
Within none n = Unit {0}
Within (some k) n = n ≤ k
