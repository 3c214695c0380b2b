-- `responder::put` meets its contract.
use Rattle.std.proofs.Common.{arith}
use Rattle.responder.proofs.Replies.{put_two}
use Rattle.responder.proofs.put.Goals as goal

pub returns : goal.returns
returns c = put_two c.args.head.now c.args.rest.now c.args.reply.now (omega arith) c.copy_into.ensures.buffer c.copy_into-2.ensures.buffer
