-- The rows that pin single clauses, by computing; a list at a time, since one declaration may take only so many steps.
use mathlib.Core.Path.{refl}
use Rattle.rules.specs.After.{checked}
use Rattle.rules.specs.Client.{call}
use Rattle.rules.specs.Events.{plain, addressed, within_limits, entries_from}
use Rattle.rules.specs.Exchange.{look, settle, exchange}
use Rattle.rules.specs.Pins.{Hold, lenient_exchange, lenient_calls, strict_bounds, events, overall, requests, beside, limits, AtMost512, Pins}

lenient_exchange-hold : Hold lenient_exchange
unfolding lenient_exchange call within_limits entries_from exchange settle look checked
lenient_exchange-hold = refl

lenient_calls-hold : Hold lenient_calls
unfolding lenient_calls call within_limits entries_from exchange settle look checked
lenient_calls-hold = refl

strict_bounds-hold : Hold strict_bounds
unfolding strict_bounds call within_limits entries_from exchange settle look checked
strict_bounds-hold = refl

events-hold : Hold events
unfolding events call within_limits entries_from exchange settle look checked
events-hold = refl

overall-hold : Hold overall
unfolding overall call within_limits entries_from exchange settle look checked
overall-hold = refl

requests-hold : Hold requests
unfolding requests call within_limits entries_from exchange settle look checked
requests-hold = refl

beside-hold : Hold beside
unfolding beside call within_limits entries_from exchange settle look checked
beside-hold = refl

limits-hold : Hold limits
unfolding limits call within_limits entries_from exchange settle look checked
limits-hold = refl

at-most-512 : AtMost512
unfolding within_limits
at-most-512 plain events replies = (λ h. rw h refl, λ h. rw h refl)
at-most-512 addressed events replies = (λ h. rw h refl, λ h. rw h refl)

pub pins-hold : Pins
pins-hold = (lenient_exchange-hold, lenient_calls-hold, strict_bounds-hold, events-hold, overall-hold, requests-hold, beside-hold, limits-hold, at-most-512)
