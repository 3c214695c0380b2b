-- The original Rust client as definitions, statement by statement, and what it has to equal.
pub mod Rust
pub mod Errors
pub mod Client
pub mod Suppressed
pub mod Shown
pub mod Demand2
pub mod Rows
