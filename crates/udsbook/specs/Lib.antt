-- What the contracts of `udsbook` cite besides `bookkeeping`.
pub mod Streams
