-- What the proofs of this crate and of those above it share.
pub mod Asking
