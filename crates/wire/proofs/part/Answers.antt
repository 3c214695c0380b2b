-- `wire::part` meets its contract.
use native.Mathlib.Nat.{add-sub_cancel_left}
use mathlib.Core.Path.{sym}
use Rattle.wire.proofs.Ends.{part-past, part-rest}
use Rattle.wire.proofs.part.Goals as goal

pub returns-then-at-bytes : goal.returns-then-at-bytes
returns-then-at-bytes c = sym (part-past c.args.bytes.now c.args.at c.args.len c.if-at-bytes.true)

pub returns-then-len-bytes : goal.returns-then-len-bytes
returns-then-len-bytes c = rw add-sub_cancel_left

pub returns : goal.returns
returns c = sym
    (part-rest c.args.bytes.now c.args.at c.args.len
    c.if-len-bytes.false)
