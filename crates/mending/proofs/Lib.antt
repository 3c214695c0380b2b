-- The theorems that specs/ states, and what they rest on.
pub mod Runs
pub mod Judged
pub mod Written
pub mod Whole
pub mod Taken
pub mod Bytes
pub mod Cuts
pub mod Promises
pub mod OnlyCut
pub mod Rows
