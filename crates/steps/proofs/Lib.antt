-- What the proofs of `steps` share, and what the engine promises.
pub mod Phases
pub mod Standing
pub mod Promises
pub mod Unique
pub mod Apart
