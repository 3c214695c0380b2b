-- `find` meets its contract: what is sought among the logs that are left is what was sought among all, and they are what is left of the book.
use Rattle.book.proofs.Walks.{nth}
use Rattle.book_layout.specs.Left.{left}
use Rattle.book.specs.Answered.{stands_at}
use Rattle.bookkeeping.specs.Book as bookkeeping
use Rattle.bookkeeping.specs.Layout.{joined, start, logs_in}
use Rattle.rules.specs.Bytes.{u16_at}
use lib.ListN.{length, drop}
use mathlib.Core.Path.{◌≡◌}
use Prim.Native.Nat.{◌+◌}
use Rattle.book.proofs.find.Given as goal

abbrev pub invariant-loop-log : goal.invariant-loop-log
invariant-loop-log l =
    (l.at + length (joined (left l.log-iterator)) ≡ length l.book) × (joined (left l.log-iterator) ≡ drop l.at l.book)
    × (nth l.call l.left (left l.log-iterator) ≡ bookkeeping.find l.book l.call l.k)
    × (stands_at l.call l.left l.at (left l.log-iterator) ≡ stands_at l.call l.k (start (u16_at l.book 4)) (logs_in l.book))
