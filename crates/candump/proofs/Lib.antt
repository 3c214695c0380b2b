-- Laws behind the proofs of `candump`.
pub mod Grammar
pub mod Reading
pub mod Words
pub mod Rows
