-- What the contracts of `udsmend` cite besides `mending`.
pub mod Streams
