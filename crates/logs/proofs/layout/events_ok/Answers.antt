-- `layout::events_ok` meets its contract: what passed up to i and what is left say what all do.
use mathlib.Core.Path.{◌∙◌, ap}
use Rattle.rules.specs.Logs.{event_ok}
use Rattle.exchange.specs.Meaning.{form_of}
use Rattle.logs.proofs.Layouts.{events-more, events-last}
use Rattle.logs.proofs.layout.events_ok.Goals as goal

pub loop-i-preserved : goal.loop-i-preserved
loop-i-preserved c =
    let x = c.args in
    let told = c.event_ok-passed.ensures ∙ ap event_ok c.event_at.ensures in
    events-more (form_of x.form) x.events.now c.loop-i.i c.event_count-n.result c.loop-i.passed c.event_ok-passed.result _ c.loop-i-test.true told c.loop-i.invariant

pub returns : goal.returns
returns c =
    let x = c.args in
    events-last (form_of x.form) x.events.now c.loop-i.i c.event_count-n.result c.loop-i.passed _ c.loop-i-test.false c.loop-i.invariant
