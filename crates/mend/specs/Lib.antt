-- What the contract of `mend` cites besides `mending`.
pub mod Answered
pub mod Recounted
