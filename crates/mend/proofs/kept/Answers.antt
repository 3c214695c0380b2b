-- `kept` meets its contract.
use native.Mathlib.Omega.{arith}
use mathlib.Core.Path.{◌≡◌, sym, ◌∙◌}
use Rattle.exchange.specs.Meaning.{form_of, entry_of}
use Rattle.mend.proofs.Counting.{goes_further, ends-here, no_more, of-first}
use Rattle.mend.proofs.kept.Goals as goal

pub returns-then-not-goes_on : goal.returns-then-not-goes_on
returns-then-not-goes_on c =
    let l = c.loop-i in
    let a = c.args in
    sym (ends-here (form_of a.form) a.left a.events.now c.min-n.result l.i l.last (entry_of c.event_at-event.result) c.event_at-event.ensures c.loop-i-test.true
    (sym c.goes_on.ensures ∙ c.if-not-goes_on.true)) ∙
    l.invariant ∙
    of-first (form_of a.form) a.left a.events.now c.min-n.result (omega (arith, c.event_count.ensures))

pub loop-i-preserved : goal.loop-i-preserved
loop-i-preserved c =
    let l = c.loop-i in
    let a = c.args in
    sym (goes_further (form_of a.form) a.left a.events.now c.min-n.result l.i l.last (entry_of c.event_at-event.result) c.event_at-event.ensures c.loop-i-test.true
    (sym c.goes_on.ensures ∙ c.if-not-goes_on.false)) ∙
    l.invariant

pub returns : goal.returns
returns c =
    let l = c.loop-i in
    let a = c.args in
    let all : c.min-n.result ≡ l.i = omega arith in
    all ∙
    sym (no_more (form_of a.form) a.left a.events.now c.min-n.result l.i l.last (omega arith)) ∙
    l.invariant ∙
    of-first (form_of a.form) a.left a.events.now c.min-n.result (omega (arith, c.event_count.ensures))
