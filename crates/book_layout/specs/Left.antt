-- The logs that a walk through a book has left.
use Rattle.std.specs.Prelude.{ℕ, List}
use Rattle.bookkeeping.specs.Layout.{logs_from}
use Rattle.book_layout.specs.declared.Logs.{Logs}

abbrev pub left : Logs → List (List ℕ)
left s = logs_from s.entries.now s.count s.bytes.now
