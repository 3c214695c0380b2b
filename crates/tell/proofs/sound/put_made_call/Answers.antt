-- `tell::put_made_call` meets its contract.
use Rattle.tell.proofs.Calling.{called}
use Rattle.tell.proofs.sound.put_made_call.Goals as goal

pub returns : goal.returns
returns c =
    let args = c.args in
    called args.ask args.session args.request.now args.address args.size args.events.now args.answer
    c.asked_by-asked.ensures c.start.ensures c.exchange-heard.ensures c.put_begins-a.ensures
    c.put_exchange-b.ensures (rw c.part-reply.ensures at c.put_checks-c.ensures) c.put_concludes.ensures
