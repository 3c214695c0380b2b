-- What is answered of a damaged log.
use Prim.Native.Nat.{ℕ, ◌+◌, ◌≤◌, ◌<◌}
use native.Mathlib.Omega.{arith}
use mathlib.Core.List.{List}
use mathlib.Core.Path.{◌≡◌, ◌∙◌, ap₂}
use lib.ListN.{length}
use borrow.Author.Tests.{le-leb, lt-leb}
use Rattle.std.specs.Prelude.{Ok, Err}
use Rattle.wire.specs.Buffers.{with}
use Rattle.wire.specs.Refusing.{refusal_number}
use Rattle.wire.specs.declared.refusal.Refusal.{Refusal}
use Rattle.mending.specs.Mend.{Report, refused, mended, mend}
use Rattle.mend.specs.declared.MendError.TheVariants.{Refused, NoRoom}
use Rattle.mend.specs.declared.Report as Told
use Rattle.mend.specs.Answered.{report_of, log, Mends}

module _ {damaged before : List ℕ} where
  pub refuses : (r : Refusal) → mend damaged ≡ refused (refusal_number r) → Mends damaged before (Err (Refused r)) before
  refuses r e = record { answer = rw e; buffer = rw e }

  module _ {out : List ℕ} {r : Report} (e : mend damaged ≡ mended out r) where
    pub no_room : length before < length out → Mends damaged before (Err NoRoom) before
    unfolding with
    no_room short =
        let zero : 0 + length out ≡ length out = omega arith in
        let less = lt-leb (length out) (length before) short in
        record { answer = rw (e, less); buffer = rw (e, zero, less) }

    pub wrote : {n : ℕ} {told : Told.Report} {after : List ℕ} → n ≡ length out → n ≤ length before → report_of told ≡ r → after ≡ with before 0 out
        → Mends damaged before (Ok (n, told)) after
    wrote long room same put =
        let fits = le-leb (length out) (length before) (omega arith) in
        record { answer = rw (e, fits) (ap₂ log long same); buffer = put ∙ rw e }
