-- The proofs of the functions, and the laws that they cite.
pub mod Coding
pub mod Rowing
pub mod Heard
pub mod Checking
