-- The rows for requests, by computing.
use mathlib.Core.Path.{refl}
use Rattle.rules.specs.Client.{call}
use Rattle.rules.specs.Events.{within_limits, entries_from}
use Rattle.rules.specs.Exchange.{settle, exchange}
use Rattle.rules.specs.RequestRows.{request_rows, RequestRows}

pub request-rows-hold : RequestRows
unfolding request_rows call within_limits entries_from exchange settle
request-rows-hold = (refl, refl, refl, refl)
