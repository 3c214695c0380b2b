-- `summarize` meets its contract: with the logs that are left, the counters come to the summary.
use Rattle.book_layout.specs.Left.{left}
use Rattle.bookkeeping.proofs.Counting.{raised_all}
use Rattle.bookkeeping.specs.Summary.{afresh}
use Rattle.bookkeeping.specs.Layout.{logs_in}
use Rattle.rules.specs.Logs.{layout_ok}
use Rattle.rules.specs.Bytes.{every}
use mathlib.Core.Path.{◌≡◌}
use mathlib.Core.Bool.{true}
use Rattle.book.proofs.summary.summarize.Given as goal

abbrev pub invariant-loop-log : goal.invariant-loop-log
invariant-loop-log l =
    (every layout_ok (left l.log-iterator) ≡ true) × (raised_all l.summary (left l.log-iterator) ≡ afresh (logs_in l.book))
