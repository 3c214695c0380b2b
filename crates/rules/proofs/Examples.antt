-- The ten examples and the readings, by computing.
use mathlib.Core.Path.{refl}
use Rattle.rules.specs.Addresses.{log2, lines, writing, Addresses}
use Rattle.rules.specs.After.{checked}
use Rattle.rules.specs.Client.{call}
use Rattle.rules.specs.Events.{within_limits, entries_from}
use Rattle.rules.specs.Examples.{examples, log, Examples}
use Rattle.rules.specs.Exchange.{look, settle, exchange}
use Rattle.rules.specs.Lines.{decimal_to, line}
use Rattle.rules.specs.Logs.{layout_ok, line_of, answer_of}
use Rattle.rules.specs.Readings.{meetings, Readings}

pub examples-hold : Examples
unfolding examples log line_of answer_of layout_ok line decimal_to call within_limits entries_from exchange settle look checked
examples-hold = (refl, refl)

pub readings-hold : Readings
unfolding meetings line decimal_to call within_limits entries_from exchange settle look checked
readings-hold = (refl, refl, refl)

pub addresses-hold : Addresses
unfolding log2 lines writing line_of answer_of layout_ok line decimal_to call within_limits entries_from exchange settle look checked
addresses-hold = (refl, refl)
