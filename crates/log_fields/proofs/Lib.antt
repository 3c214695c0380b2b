-- What follows from the definitions.
pub mod Firsts
pub mod Tests
pub mod Each
pub mod Promises
pub mod Rows
