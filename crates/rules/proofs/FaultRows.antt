-- The rows for call 15 and the selector, by computing.
use mathlib.Core.Path.{refl}
use Rattle.rules.specs.After.{checked}
use Rattle.rules.specs.Client.{call}
use Rattle.rules.specs.Events.{within_limits, entries_from}
use Rattle.rules.specs.Exchange.{look, settle, exchange}
use Rattle.rules.specs.FaultRows.{listings, stored, FaultRows}

pub fault-rows-hold : FaultRows
unfolding listings stored call within_limits entries_from exchange settle look checked
fault-rows-hold = (refl, refl)
