-- `sound::put_sound` meets its contract.
use mathlib.Core.List.{[]}
use mathlib.Core.Path.{◌≡◌, ◌∙◌}
use Rattle.exchange.specs.Meaning.{outcome_of}
use Rattle.logs.specs.Layout.{said}
use Rattle.telling.specs.Telling.{by_refusal}
use Rattle.telling.specs.Words.{declined}
use Rattle.text.proofs.Adding.{saying}
use Rattle.tell.proofs.Sounding.{not-refused, declines, sounds}
use Rattle.tell.proofs.sound.put_sound.Goals as goal

pub returns-in-Refused : goal.returns-in-Refused
returns-in-Refused c =
    let told : declined c.in-Refused.refusal ≡ by_refusal (outcome_of [] c.in_session-answered.result.answer.outcome) [] = rw c.in-Refused.is in
    saying
    (told ∙ declines c.args.log.now (said c.args.h) (c.requires.1) (c.requires.2)
    c.address_of-address.ensures c.size_of-size.ensures
    c.data_of-data.ensures c.events_of-events.ensures
    c.replies_of-replies.ensures
    c.in_session-answered.ensures (rw c.in-Refused.is))
    c.put_refusal.ensures

pub returns-in_default : goal.returns-in_default
returns-in_default c =
    saying
    (sounds c.args.log.now (said c.args.h) (c.requires.1) (c.requires.2)
    c.address_of-address.ensures c.size_of-size.ensures
    c.data_of-data.ensures c.events_of-events.ensures
    c.replies_of-replies.ensures
    c.in_session-answered.ensures (not-refused c.in_session-answered.result.answer.outcome c.in_default.not-Refused))
    (rw c.part.ensures at c.put_made_call.ensures)
