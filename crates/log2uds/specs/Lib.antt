-- What the contracts of `log2uds` cite.
pub mod Streams
pub mod Runs
pub mod Rows
