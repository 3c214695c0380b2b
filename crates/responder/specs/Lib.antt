-- What the contracts of `responder` cite beside `bench` and `rules`.
pub mod Decided
pub mod Responding
pub mod Promises
