-- `stores::sound` meets its contract.
use Rattle.std.proofs.Common.{◌∙◌, refl, sym}
use Rattle.stores.proofs.Layouts.{asked}
use Rattle.stores.proofs.sound.Goals.{then-has_header, else-has_header}
use Rattle.stores.proofs.sound.Goals as goal

pub returns-then-has_no_gaps : goal.returns-then-has_no_gaps
returns-then-has_no_gaps c =
    elim c.if-has_header.branch [
      | then-has_header w ↦
          c.all_known.ensures ∙ asked c.args.store.now (sym c.has_header.ensures ∙ w.if-has_header.true) (sym w.has_no_gaps.ensures ∙ sym w.value-is ∙ c.if-has_no_gaps.true)
      | else-has_header w ↦ cc
    ]

pub returns-else-has_no_gaps : goal.returns-else-has_no_gaps
returns-else-has_no_gaps c =
    c.if-has_no_gaps.false ∙
    elim c.if-has_header.branch [
      | then-has_header w ↦ asked c.args.store.now (sym c.has_header.ensures ∙ w.if-has_header.true) (sym w.has_no_gaps.ensures ∙ sym w.value-is ∙ c.if-has_no_gaps.false)
      | else-has_header w ↦ asked c.args.store.now (sym c.has_header.ensures ∙ w.if-has_header.false) refl
    ]
