-- Laws behind the proofs of `imports`.
pub mod Noting
pub mod Logging
pub mod Stepping
pub mod Settling
pub mod Unique
