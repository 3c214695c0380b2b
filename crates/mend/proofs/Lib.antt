-- Laws behind the proofs of `mend`.
pub mod Copies
pub mod Places
pub mod Answers
pub mod Counting
pub mod Promises
