-- `log2uds::read_text` meets its contract.
use mathlib.Core.Path.{sym, ◌∙◌}
use lib.ListN.{length}
use Rattle.std.specs.Io.KnownBytes.{Consumes}
use Rattle.std.proofs.KnownBytes.{Consumes-nil}
use Rattle.imports.proofs.Settling.{settled-held}
use Rattle.log2uds.proofs.Runs.{none_came, turn-came, unsettled}
use Rattle.log2uds.proofs.read_text.Goals as goal

pub loop-init : goal.loop-init
loop-init g c =
    let x = c.args in
    let s = c.begin-stream.result in
    let begun = c.begin-stream.ensures x.lent.now x.out.now in (
      none_came (length x.out.now) x.ids.ask x.ids.answer (Consumes _ _) begun (Consumes-nil _),
      settled-held s x.lent.now x.out.now ∙ unsettled begun,
    )

pub returns-then-settled-clause-came : goal.returns-then-settled-clause-came
returns-then-settled-clause-came g c =
    let x = c.args in
    turn-came (length x.out.now) (length c.loop.out) x.ids.ask x.ids.answer _ _ _ c.loop.auto.out c.loop.invariant.0 c.in_ok-reached.ensures

pub returns-then-reached-clause-came : goal.returns-then-reached-clause-came
returns-then-reached-clause-came g c =
    let x = c.args in
    turn-came (length x.out.now) (length c.loop.out) x.ids.ask x.ids.answer _ _ _ c.loop.auto.out c.loop.invariant.0 c.in_ok-reached.ensures

pub loop-preserved : goal.loop-preserved
loop-preserved g c =
    let x = c.args in (
      turn-came (length x.out.now) (length c.loop.out) x.ids.ask x.ids.answer _ _ _ c.loop.auto.out c.loop.invariant.0 c.in_ok-reached.ensures,
      sym c.settled-settled.ensures ∙ c.if-settled.false,
    )

pub returns-after-loop-clause-came : goal.returns-after-loop-clause-came
returns-after-loop-clause-came g c = c.loop.invariant.0
