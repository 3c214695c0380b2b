-- What the contracts of `book` cite besides `bookkeeping`.
pub mod Moved
pub mod Answered
