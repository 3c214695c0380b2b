-- The rows, by computing; a list at a time, since one declaration may take only so many steps.
use mathlib.Core.Path.{refl}
use Rattle.rules.specs.Addresses.{log2}
use Rattle.rules.specs.After.{checked}
use Rattle.rules.specs.Client.{call}
use Rattle.rules.specs.Events.{within_limits, entries_from}
use Rattle.rules.specs.Examples.{log}
use Rattle.rules.specs.Exchange.{look, settle, exchange}
use Rattle.rules.specs.Lines.{decimal_to, line}
use Rattle.rules.specs.Logs.{layout_ok, line_of, answer_of}
use Rattle.mending.specs.Mend.{mend}
use Rattle.mending.specs.Rows.{cuts, placed, runs, refusals, damages, Hold, NotTaken, Rows}
use Rattle.mending.specs.Said.{said, put}

cuts-hold : Hold cuts
unfolding cuts log log2 mend said put entries_from decimal_to
cuts-hold = refl

placed-hold : Hold placed
unfolding placed mend said put entries_from decimal_to
placed-hold = refl

runs-hold : Hold runs
unfolding runs mend said put entries_from decimal_to
runs-hold = refl

refusals-hold : Hold refusals
unfolding refusals log log2 mend said put entries_from decimal_to
refusals-hold = refl

not_taken : NotTaken
unfolding damages log log2 mend put line_of answer_of layout_ok line decimal_to call within_limits entries_from exchange settle look checked
not_taken = (refl, refl)

pub rows-hold : Rows
rows-hold = (cuts-hold, placed-hold, runs-hold, refusals-hold, not_taken)
