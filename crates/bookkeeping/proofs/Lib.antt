-- The theorems that specs/ states, and what they rest on.
pub mod Layouts
pub mod Books
pub mod Finding
pub mod Counting
pub mod Bytes
pub mod Fields
pub mod Rows
