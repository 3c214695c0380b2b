-- The theorems that specs/ states, and the laws of the functions.
pub mod Feeding
pub mod Joining
pub mod Bus
pub mod Stamps
pub mod Examples
pub mod Held
