-- What the proofs of this crate share.
pub mod Headers
pub mod Unique
