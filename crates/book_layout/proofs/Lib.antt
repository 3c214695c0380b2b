-- Laws behind the proofs of `book_layout`.
pub mod Walks
