-- How the code of `imports` holds what is kept.
pub mod Held
