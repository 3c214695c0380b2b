-- Laws behind the proofs of `book`.
pub mod Bytes
pub mod Inserting
pub mod Walks
pub mod Adding
pub mod Promises
