-- The rows, by computing; a list at a time, since one declaration may take only so many steps.
use mathlib.Core.Path.{refl}
use Rattle.rules.specs.Addresses.{log2}
use Rattle.rules.specs.Events.{entries_from}
use Rattle.rules.specs.Examples.{log}
use Rattle.rules.specs.Lines.{decimal_to}
use Rattle.log_fields.specs.Fields.{first_off}
use Rattle.log_fields.specs.Rows.{lengths, headers, events, in_order, Hold, Rows}
use Rattle.log_fields.specs.Words.{off_text, off_line}

lengths-hold : Hold lengths
unfolding lengths log log2 off_line first_off off_text entries_from decimal_to
lengths-hold = refl

headers-hold : Hold headers
unfolding headers log log2 off_line first_off off_text entries_from decimal_to
headers-hold = refl

events-hold : Hold events
unfolding events log log2 off_line first_off off_text entries_from decimal_to
events-hold = refl

in-order-hold : Hold in_order
unfolding in_order log log2 off_line first_off off_text entries_from decimal_to
in-order-hold = refl

pub rows-hold : Rows
rows-hold = (lengths-hold, headers-hold, events-hold, in-order-hold)
