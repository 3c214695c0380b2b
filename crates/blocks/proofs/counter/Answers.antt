-- `blocks::counter` meets its contract.
use native.Mathlib.Nat.{mod-add-mod}
use Rattle.std.proofs.Common.{length, sym, ap, ◌∙◌, arith}
use Rattle.std.specs.Prelude.{Ok}
use borrow.Author.Tests.{eqb-true, eqb-false}
use Rattle.blocks.proofs.Laws.{accepts, refuses-length, refuses-number}
use Rattle.blocks.proofs.Steps.{within, beyond}
use Rattle.blocks.proofs.counter.Goals.{then-is_empty-via-then-is_empty, then-is_empty-via-else-is_empty+then-k-data}
use Rattle.blocks.proofs.counter.Goals as goal

pub returns-then-n-lt3 : goal.returns-then-n-lt3
returns-then-n-lt3 c = sym (refuses-length _ _ _ (omega arith))

pub returns-then-is_empty : goal.returns-then-is_empty
returns-then-is_empty c =
    elim c.then-is_empty.branch [
      | then-is_empty-via-then-is_empty w ↦ let none = eqb-true (length c.args.data.now) 0 (sym w.if-is_empty.ensures) in sym (refuses-number _ _ _ (omega arith) (omega arith))
      | then-is_empty-via-else-is_empty+then-k-data w ↦ sym (refuses-number _ _ _ (omega arith) (beyond _ _ _ (omega arith) w.if-k-data.true))
    ]

pub returns : goal.returns
returns c =
    let some = eqb-false (length c.args.data.now) 0 (sym c.if-is_empty.ensures) in
    let begins = within _ _ _ (omega arith) (omega arith) c.if-k-data.false in
    ap Ok (mod-add-mod c.args.k 256 1) ∙ sym (accepts _ _ _ (omega arith) begins)
