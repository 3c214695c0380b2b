-- For the class: the story of a log, its text, the theorems' statements, and rows.
pub mod Story
pub mod Words
pub mod Checks
pub mod Telling
pub mod Promises
pub mod Rows
