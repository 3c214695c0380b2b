-- From what `mend` answers, and the text that is put, to what both streams get.
use Prim.Native.Nat.{ℕ, ◌+◌}
use native.Mathlib.Omega.{arith}
use mathlib.Core.List.{List}
use mathlib.Core.Path.{◌≡◌, sym, ◌∙◌, ap}
use lib.ListN.{length, take, drop}
use lib.Seq.{take_at}
use Rattle.mending.specs.Mend as mending
use Rattle.mending.specs.Mend.{mend}
use Rattle.mending.specs.Said as Said
use Rattle.text.specs.Written.{Put, put}
use Rattle.std.specs.Prelude.{Ok, Err}
use Rattle.wire.specs.Refusing.{refusal_number}
use Rattle.wire.specs.declared.refusal.Refusal.{Refusal}
use Rattle.mend.specs.declared.MendError.TheVariants.{Refused}
use Rattle.mend.specs.declared.Report as Told
use Rattle.mend.specs.Answered.{report_of, Mends}
use Rattle.mend.proofs.Promises.{stands, untouched}
use Rattle.udsmend.specs.Streams.{Holds}

-- What was put at the front stands there.
at_front : (l m bs : List ℕ) (n : ℕ) → Put l 0 bs m n → take n m ≡ bs
unfolding put
at_front l m bs n p = ap (take n) p.line ∙ take_at bs (drop (0 + length bs) l) n (omega (arith, p.next))

module _ (read before out text said : List ℕ) where
  pub logged : (k r : ℕ) (told : Told.Report) → Mends read before (Ok (k, told)) out → Put text 0 (Said.reported (report_of told)) said r
      → Holds read (record { out = k; said = r }) out said
  unfolding Said.put Said.said
  logged k r told p q =
      let is = sym (stands read before k told out p).is in
      record { log = ap Said.put is; report = at_front text said _ r q ∙ ap Said.said is }

  pub refused : (k : Refusal) (r : ℕ) → Mends read before (Err (Refused k)) out → Put text 0 (Said.said (mending.refused (refusal_number k))) said r
      → Holds read (record { out = 0; said = r }) out said
  unfolding Said.put
  refused k r p q =
      let is = sym (untouched read before k out p).0 in
      record { log = ap Said.put is; report = at_front text said _ r q ∙ ap Said.said is }
