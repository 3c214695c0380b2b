-- `mend` meets its contract.
use Prim.Native.Nat.{ℕ}
use native.Mathlib.Omega.{arith}
use mathlib.Core.List.{List}
use mathlib.Core.Path.{◌≡◌, sym, ◌∙◌, ap}
use lib.ListN.{length, length-take}
use borrow.Author.Tests.{leb-true}
use Rattle.wire.specs.declared.refusal.Refusal.TheVariants as refusal
use Rattle.rules.specs.Logs.{Header}
use Rattle.logs.specs.Layout.{said}
use Rattle.mending.specs.Mend.{mended_header, mended_log, report, mended, mend}
use Rattle.mending.proofs.Judged.{as_read, gives-18, gives-19, gives-log}
use Rattle.mending.proofs.Written.{length-mended}
use Rattle.mend.proofs.Answers.{refuses, no_room, wrote}
use Rattle.mend.proofs.mend.Goals as goal
use Rattle.mend.proofs.mend.Goals.{Else-out-new, After-mended_header-new}

pub mended_header-new-requires-clause-short : goal.mended_header-new-requires-clause-short
mended_header-new-requires-clause-short c = rw c.part-read.ensures (omega (arith, length-take 65535 c.args.log.now))

-- A log that is not refused: what is written, and how long it is.
module _ (c : After-mended_header-new) where
  abbrev read : List ℕ
  read = c.part-read.result.now

  abbrev old : Header
  old = said c.read_header-old.result

  is : mend c.args.log.now ≡ mended (mended_log old read) (report old (mended_header old read))
  is =
      as_read c.args.log.now read old c.part-read.ensures c.read_header-old.ensures ∙
      gives-log old read (sym c.headed.ensures ∙ c.if-not-headed.false) (sym c.argued.ensures ∙ c.if-not-argued.false)

  total : c.mended_header-new.result.total ≡ length (mended_log old read)
  total =
      ap (λ (h : Header). h.total) c.mended_header-new.ensures ∙
      sym (length-mended old read (leb-true _ _ (sym c.argued.ensures ∙ c.if-not-argued.false)))

pub returns-then-out-new : goal.returns-then-out-new
returns-then-out-new c =
    let m = (goal.at.returns-then-out-new c).After-mended_header-new in
    no_room (is m) (omega (arith, total m, c.if-out-new.true))

pub returns : goal.returns
returns c =
    let m = (goal.at.returns c).After-mended_header-new in
    wrote (is m) (total m) (omega (arith, c.if-out-new.false)) (ap (report (old m)) c.mended_header-new.ensures) c.put_log.ensures
