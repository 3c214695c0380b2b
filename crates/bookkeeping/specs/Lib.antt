-- Request Thirteen, "A book of logs with a summary": the definitions, what is printed, the theorems' statements, and rows.
pub mod Layout
pub mod Summary
pub mod Book
pub mod Fields
pub mod Said
pub mod Promises
pub mod Rows
