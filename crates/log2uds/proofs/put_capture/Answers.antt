-- `log2uds::put_capture` meets its contract.
use mathlib.Core.List.{◌++◌}
use mathlib.Core.Path.{◌∙◌}
use Rattle.rules.specs.Events.{plain, entries}
use Rattle.log2uds.specs.Streams.{noted, reported}
use Rattle.log2uds.proofs.Capturing.{log-there, of-lines}
use Rattle.log2uds.proofs.put_capture.Goals as goal

pub returns-in-Ok-capture : goal.returns-in-Ok-capture
returns-in-Ok-capture c =
    let x = c.args in
    let text = noted c.part-lines.result.now ++ reported c.in-Ok.told.left_out in
    let ends = log-there x.call.now (entries plain c.part-events.result.now) c.part-replies.result.now x.whole.now _ text c.capture.ensures c.in-Ok-capture.is in
    rw c.in-Ok.is
    (of-lines x.call.now x.out.now x.log.now c.in-Ok.told c.part-lines.ensures c.part-events.ensures c.part-replies.ensures ends.shows (c.put_said.ensures ∙ ends.says))
