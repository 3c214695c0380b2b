-- The proofs of the functions, and the laws that they cite.
pub mod Writing
pub mod Numerals
pub mod Lines
pub mod Adding
pub mod Standing
