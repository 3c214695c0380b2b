-- What the proofs of this crate share.
pub mod Ways
pub mod Stepwise
