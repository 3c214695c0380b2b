-- What the contracts of `book_words` cite.
pub mod Words
