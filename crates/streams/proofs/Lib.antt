-- Laws for the callers of `streams`.
pub mod Ends
