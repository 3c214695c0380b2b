-- What the contracts of `steps` cite.
pub mod Stepping
pub mod Running
