-- The lines of `candump -L`: their grammar, and how a line is read byte by byte.
pub mod Text
pub mod Lines
pub mod Reading
pub mod Words
pub mod Rows
