-- What every call of a client promises.
pub mod Promises
