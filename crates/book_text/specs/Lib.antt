-- What the contracts of `book_text` cite besides `bookkeeping`.
pub mod Texts
