-- The proofs of the functions, the laws that they cite, and what is promised of a whole run.
pub mod Holding
pub mod Whole
