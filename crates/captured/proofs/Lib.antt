-- Laws behind the proofs of `captured`.
pub mod NotTen
pub mod Written
pub mod Putting
pub mod Unique
