-- The theorems of `bench`.
pub mod Tests
pub mod Bytes
pub mod Closings
pub mod Lent
pub mod Shows
pub mod Promise
pub mod Put
pub mod Written
pub mod Lasting
pub mod Rows
