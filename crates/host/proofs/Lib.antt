-- What the proofs of this crate share.
pub mod Serving
pub mod Promises
pub mod BothEnds
pub mod Answers
