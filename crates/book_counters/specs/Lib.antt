-- What the contracts of `book_counters` cite besides `bookkeeping`.
pub mod Counted
