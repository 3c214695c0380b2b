-- What the proofs of this crate share, and the theorems of a whole call.
pub mod Rechecking
pub mod Concluding
pub mod Running
pub mod Whole
pub mod Widths
