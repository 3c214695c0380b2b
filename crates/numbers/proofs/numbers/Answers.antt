-- `numbers::numbers` meets its contract.
use Rattle.numbers.proofs.Telling.{long}
use Rattle.numbers.specs.Numbers.{numbers_of}
use Rattle.numbers.proofs.numbers.Goals as goal

pub returns : goal.returns
unfolding numbers_of
returns c =
    let x = c.args.x in
    λ replies buffer inside within. rw (long replies x.answer.reply within, ← c.told-v.ensures replies inside)
