-- The theorems that specs/ states, and what they rest on.
pub mod Files
pub mod Long
pub mod Said
pub mod Laws
pub mod Silent
pub mod Rows
