-- The laws of cutting, and the proofs of the functions.
pub mod Laws
pub mod Steps
