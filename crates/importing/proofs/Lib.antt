-- What follows of the definitions.
pub mod Logged
pub mod Overflows
pub mod Imports
pub mod Settles
pub mod Rows
pub mod Rises
pub mod Passes
pub mod Room
pub mod Senders
