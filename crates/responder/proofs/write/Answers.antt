-- `responder::write` meets its contract.
use Rattle.std.proofs.Common.{◌≡◌, length, take, drop, length-drop, arith}
use lib.Seq.{take_all}
use Rattle.responder.proofs.Replies.{written, unwritten}
use Rattle.responder.proofs.write.Goals as goal

pub returns-then-reply-lt3 : goal.returns-then-reply-lt3
returns-then-reply-lt3 c = unwritten _ _ _ c.args.at c.requires c.if-reply-lt3.true

pub returns : goal.returns
returns c =
    let q = c.args.request.now in
    let bytes : take (length q) (drop 3 q) ≡ drop 3 q = take_all (length q) (drop 3 q) (omega (arith, length-drop 3 q)) in
    let puts = rw (c.byte_at.ensures, c.byte_at-2.ensures) at c.put.ensures in
    written _ _ _ c.args.at c.requires c.if-reply-lt3.false puts (rw (c.part.ensures, bytes) at c.copy_into.ensures.buffer)
