-- The rows hold, by computing.
use mathlib.Core.Path.{refl}
use Rattle.isotp.specs.Joining.{feed}
use Rattle.candump.specs.Text.{is, run, past, worth}
use Rattle.candump.specs.Lines.{read, bare, opened, seconds, micros, timed, named, unnamed, identified, content, classic, is_data, is_remote, is_fd, ends}
use Rattle.importing.specs.Texts.{lines_from}
use Rattle.importing.specs.Import.{walk, imported}
use Rattle.importing.specs.Rows.{rows, Rows}

pub rows-hold : Rows
unfolding rows imported walk lines_from read bare opened seconds micros timed named unnamed identified content classic is_data is_remote is_fd ends run past is worth feed
rows-hold = refl
