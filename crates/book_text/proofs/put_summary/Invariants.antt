-- `put_summary` meets its contract: the lines of the counters before this one stand in the text.
use Rattle.text.specs.Written.{Adds}
use Rattle.bookkeeping.specs.Said.{lines_from}
use lib.ListN.{take}
use Rattle.book_text.proofs.put_summary.Given as goal

abbrev pub invariant-loop-place : goal.invariant-loop-place
invariant-loop-place l = Adds (lines_from 0 (take l.place l.summary)) l.initial.text 0 l.n l.text
