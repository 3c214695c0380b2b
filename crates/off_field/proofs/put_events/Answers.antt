-- `off_field::put_events` meets its contract.
use mathlib.Core.Path.{sym, ◌∙◌, ap}
use Rattle.rules.specs.Logs.{event_ok}
use Rattle.exchange.specs.Meaning.{form_of}
use Rattle.log_fields.specs.Words.{text_of}
use Rattle.text.proofs.Adding.{nothing, saying}
use Rattle.off_field.proofs.Events.{sound-event, no-event, told, adds_on}
use Rattle.off_field.proofs.put_events.Goals as goal

pub returns-then-not-event_ok : goal.returns-then-not-event_ok
returns-then-not-event_ok c =
    let x = c.args in
    let found = told (form_of x.form) x.from x.events.now c.loop-i.i c.event_count-i-end.result c.loop-i-test.true
    c.event_size.ensures c.event_at-event.ensures (sym c.event_ok.ensures ∙ c.if-not-event_ok.true) in
    adds_on c.loop-i.invariant.0 (saying (ap text_of (found ∙ c.loop-i.invariant.1)) c.put_event.ensures)

pub loop-i-preserved : goal.loop-i-preserved
loop-i-preserved c = (
  c.loop-i.invariant.0,
  sound-event (form_of c.args.form) c.args.from c.args.events.now c.loop-i.i c.event_count-i-end.result c.loop-i-test.true
      (sym (ap event_ok c.event_at-event.ensures) ∙ sym c.event_ok.ensures ∙ c.if-not-event_ok.false) ∙
      c.loop-i.invariant.1,
)

pub returns : goal.returns
returns c =
    let x = c.args in
    let none = no-event (form_of x.form) x.from x.events.now c.loop-i.i c.event_count-i-end.result c.loop-i-test.false in
    adds_on c.loop-i.invariant.0 (saying (ap text_of (sym none ∙ c.loop-i.invariant.1)) (nothing _ _))
