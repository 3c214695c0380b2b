-- The rows hold, by computing.
use mathlib.Core.Path.{refl}
use Rattle.candump.specs.Text.{is, run, past, worth}
use Rattle.candump.specs.Lines.{read, bare, opened, seconds, micros, timed, named, unnamed, identified, content, classic, is_data, is_remote, is_fd, ends}
use Rattle.candump.specs.Rows.{rows, Rows}

pub rows-hold : Rows
unfolding rows read bare opened seconds micros timed named unnamed identified content classic is_data is_remote is_fd ends run past is worth
rows-hold = refl
