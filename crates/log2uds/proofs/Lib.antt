-- Laws behind the proofs of `log2uds`.
pub mod Words
pub mod Notes
pub mod Runs
pub mod Capturing
pub mod Rows
