-- The contracts of `book_layout` cite `bookkeeping` alone.
pub mod Left
