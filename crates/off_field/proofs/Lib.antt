-- What the proofs of `off_field` share.
pub mod Rowing
pub mod Saying
pub mod Events
