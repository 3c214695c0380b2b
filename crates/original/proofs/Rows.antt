-- The rows, by computing.
use mathlib.Core.Path.{refl}
use Rattle.rules.specs.Events.{entries_from}
use Rattle.original.specs.Client.{loop}
use Rattle.original.specs.Rows.{rows, Rows}

pub rows-hold : Rows
unfolding rows entries_from loop
rows-hold = refl
