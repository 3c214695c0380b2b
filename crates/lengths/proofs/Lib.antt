-- Laws of `lengths`: how a value grows byte by byte, and what an answer tells of it.
pub mod Values
