-- Laws behind the proofs of `book_words`.
pub mod Digits
pub mod Commands
