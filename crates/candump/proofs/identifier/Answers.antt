-- `candump::identifier` meets its contract.
use native.Mathlib.Omega.{arith}
use mathlib.Core.Path.{sym, ◌∙◌}
use Rattle.candump.proofs.Words.{none_read, one-read, too_long, none_named, not_named, one-named}
use Rattle.candump.proofs.identifier.Goals as goal
use Rattle.candump.proofs.identifier.Goals.{then-n-gt8-via-then-n-gt8, then-n-gt8-via-else-n-gt8+then-not-all_hex}

pub returns-then-n-gt8 : goal.returns-then-n-gt8
returns-then-n-gt8 c =
    elim c.then-n-gt8.branch [
      | then-n-gt8-via-then-n-gt8 w ↦ too_long c.args.word.now w.if-n-gt8.true
      | then-n-gt8-via-else-n-gt8+then-not-all_hex w ↦ none_named c.args.word.now (rw (← w.all_hex.ensures, w.if-not-all_hex.true))
    ]

pub loop-c-init : goal.loop-c-init
loop-c-init c = none_read c.args.word.now

pub loop-c-preserved : goal.loop-c-preserved
loop-c-preserved c = one-read c.if-n-gt8.false c.loop-c-test.true c.loop-c.invariant c.hexadecimal-v.ensures

pub returns-then-names : goal.returns-then-names
returns-then-names c =
    one-named c.loop-c.invariant (omega arith) (sym c.all_hex.ensures ∙ c.if-not-all_hex.false) c.if-n-gt8.false
    (sym c.names.ensures ∙ c.if-names.true) c.can_id.ensures

pub returns-else-names : goal.returns-else-names
returns-else-names c =
    not_named c.loop-c.invariant (omega arith) (sym c.all_hex.ensures ∙ c.if-not-all_hex.false) (sym c.names.ensures ∙ c.if-names.false)
