-- The theorems that specs/ states, and what they rest on.
pub mod Ways
pub mod Fitting
pub mod Promises
pub mod Rows
