-- The rows, by computing; a table at a time, since one declaration may take only so many steps.
use mathlib.Core.Path.{refl}
use Rattle.rules.specs.Addresses.{log2}
use Rattle.rules.specs.After.{checked}
use Rattle.rules.specs.Client.{call}
use Rattle.rules.specs.Events.{within_limits, entries_from}
use Rattle.rules.specs.Examples.{log}
use Rattle.rules.specs.Exchange.{look, settle, exchange}
use Rattle.rules.specs.Lines.{decimal_to}
use Rattle.rules.specs.Logs.{layout_ok, answer_of}
use Rattle.bookkeeping.specs.Summary.{tally}
use Rattle.bookkeeping.specs.Book.{is_book, add, find, summary}
use Rattle.bookkeeping.specs.Said.{lines_from, out, said, summary_out, add_out, add_said}
use Rattle.bookkeeping.specs.Rows.{one, quiet, three, books, no_books, places, sets, reads, Written, Tested, Answers, Slots, Places, Alone, Raised, Lines, Streams, Said, Rows}

written : Written
unfolding one quiet three log log2
written = refl

tested : Tested
unfolding books no_books one quiet three log log2 is_book layout_ok entries_from
tested = (refl, refl)

answers : Answers
unfolding one quiet three log log2 is_book add find summary layout_ok entries_from
answers = refl

slots : Slots
slots = refl

places-so : Places
unfolding places quiet log log2 answer_of call within_limits entries_from exchange settle look checked
places-so = refl

alone : Alone
unfolding sets reads tally answer_of call within_limits entries_from exchange settle look checked
alone = (refl, refl)

raised : Raised
raised = (refl, refl, refl)

lines : Lines
unfolding lines_from decimal_to
lines = (refl, refl, refl)

streams : Streams
unfolding out said summary_out add_out lines_from decimal_to
streams = (refl, refl)

said-so : Said
unfolding log is_book add add_said tally decimal_to answer_of layout_ok call within_limits entries_from exchange settle look checked
said-so = refl

pub rows-hold : Rows
rows-hold = (written, tested, answers, slots, places-so, alone, raised, lines, streams, said-so)
