-- The proofs of the functions, and the laws that they cite.
pub mod Answering
pub mod Longest
pub mod Promises
pub mod Reporting
