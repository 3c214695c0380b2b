-- `text::put_line` meets its contract.
use Rattle.text.proofs.Standing.{full, stands}
use Rattle.text.proofs.put_line.Goals as goal

pub returns-then-not-has_room : goal.returns-then-not-has_room
returns-then-not-has_room c =
    let a = c.args in
    full a.word.now a.head.now a.bytes.now a.line.now a.time a.events a.notices c.has_room.ensures c.if-not-has_room.true

pub returns : goal.returns
returns c =
    let a = c.args in
    stands a.word.now a.head.now a.bytes.now a.line.now a.time a.events a.notices c.has_room.ensures c.if-not-has_room.false c.put_word-a.ensures c.put_rest.ensures
