-- `is_book` meets its contract: what is left to be tested is all that there was to test.
use Rattle.book_layout.proofs.Walks.{left_ok}
use Rattle.bookkeeping.specs.Book.{is_book}
use mathlib.Core.Path.{◌≡◌}
use Prim.Native.Nat.{◌+◌, ◌*◌, ◌≤◌}
use Rattle.book_layout.proofs.is_book.Given as goal

abbrev pub invariant-loop-i : goal.invariant-loop-i
invariant-loop-i l = (l.at ≤ 524308 + l.i * 65535) × (left_ok l.book l.count l.i l.at ≡ is_book l.book)
