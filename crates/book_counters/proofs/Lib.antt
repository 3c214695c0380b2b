-- Laws behind the proofs of `book_counters`.
pub mod Unique
