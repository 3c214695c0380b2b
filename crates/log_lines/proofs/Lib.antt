-- The proofs of the functions, the laws that they cite, and what is promised of a run.
pub mod Lining
pub mod Saying
pub mod Batching
pub mod Promises
