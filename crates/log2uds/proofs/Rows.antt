-- The rows hold, by computing.
use mathlib.Core.Path.{refl}
use Rattle.rules.specs.Events as events
use Rattle.rules.specs.Lines.{decimal_to}
use Rattle.rules.specs.Logs.{layout_ok}
use Rattle.text.specs.Written.{item}
use Rattle.isotp.specs.Joining.{feed}
use Rattle.candump.specs.Text.{is, run, past, worth}
use Rattle.candump.specs.Lines.{read, bare, opened, seconds, micros, timed, named, unnamed, identified, content, classic, is_data, is_remote, is_fd}
use Rattle.candump.specs.Lines.{ends}
use Rattle.importing.specs.Texts.{lines_from}
use Rattle.importing.specs.Import.{walk, imported}
use Rattle.captured.specs.Capture.{capture}
use Rattle.log2uds.specs.Rows.{rows, Rows}

pub rows-hold : Rows
unfolding rows imported walk lines_from read bare opened seconds micros timed named unnamed identified content classic is_data is_remote is_fd ends run
    past is worth feed capture layout_ok events.entries_from item decimal_to
rows-hold = (refl, refl)
