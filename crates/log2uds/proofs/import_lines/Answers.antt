-- `log2uds::import_lines` meets its contract.
use Rattle.std.specs.Io.KnownBytes.{Consumes}
use Rattle.log2uds.proofs.Runs.{lines-written}
use Rattle.log2uds.proofs.import_lines.Goals as goal

pub returns : goal.returns
returns g c =
    lines-written c.args.ids.ask c.args.ids.answer c.in_ok-whole.whole.ended (Consumes _ _) c.requires.0 c.in_ok-whole.ensures.0 c.in_ok-whole.ensures.1
    c.put_outcome.ensures
    c.left_out.ensures
    c.put_left_out.ensures
