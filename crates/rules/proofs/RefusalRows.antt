-- The rows for refusals, by computing; a list at a time, since one declaration may take only so many steps.
use mathlib.Core.List.{map}
use mathlib.Core.Path.{◌≡◌, refl}
use Rattle.rules.specs.After.{checked}
use Rattle.rules.specs.Client.{call}
use Rattle.rules.specs.Events.{within_limits, entries_from}
use Rattle.rules.specs.Exchange.{look, settle, exchange}
use Rattle.rules.specs.Pins.{Hold}
use Rattle.rules.specs.RefusalRows.{in_order5, in_order6, in_order11, in_order12, buffer_rows, fits, event_fields, OwnGiven, RefusalRows}

in_order5-hold : Hold in_order5
unfolding in_order5 call within_limits entries_from exchange settle
in_order5-hold = refl

in_order6-hold : Hold in_order6
unfolding in_order6 call within_limits entries_from exchange settle
in_order6-hold = refl

in_order11-hold : Hold in_order11
unfolding in_order11 call within_limits entries_from exchange settle
in_order11-hold = refl

in_order12-hold : Hold in_order12
unfolding in_order12 call within_limits entries_from exchange settle
in_order12-hold = refl

buffer_rows-hold : map fits buffer_rows ≡ map (λ r. r.outcome) buffer_rows
unfolding buffer_rows call within_limits entries_from exchange settle
buffer_rows-hold = refl

event_fields-hold : Hold event_fields
unfolding event_fields call within_limits entries_from exchange settle look checked
event_fields-hold = refl

own-given : OwnGiven
unfolding buffer_rows in_order5 in_order6 in_order11 in_order12
own-given = refl

pub refusal-rows-hold : RefusalRows
refusal-rows-hold = (in_order5-hold, in_order6-hold, in_order11-hold, in_order12-hold, buffer_rows-hold, event_fields-hold, own-given)
