-- Laws behind the proofs of `book_text`.
pub mod Texts
