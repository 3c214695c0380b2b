-- Laws of `codes`.
pub mod Entries
