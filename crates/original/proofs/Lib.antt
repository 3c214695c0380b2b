-- The theorem that specs/ states, and what it rests on.
pub mod Laws
pub mod Exchange
pub mod Following
pub mod Memory
pub mod Calls
pub mod Demand2
pub mod Rows
