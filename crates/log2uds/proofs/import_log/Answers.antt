-- `log2uds::import_log` meets its contract.
use Rattle.std.specs.Io.KnownBytes.{Consumes}
use Rattle.log2uds.proofs.Runs.{log-written}
use Rattle.log2uds.proofs.import_log.Goals as goal

pub returns : goal.returns
returns g c =
    log-written c.args.ids.ask c.args.ids.answer c.args.call.now c.in_ok-whole.whole.ended (Consumes _ _) c.requires.0 c.in_ok-whole.ensures.0
    c.in_ok-whole.ensures.1
    c.put_capture.ensures.0
    c.put_capture.ensures.1
