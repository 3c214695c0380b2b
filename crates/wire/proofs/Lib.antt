-- Laws of `wire`: what reads past the end give, copies, and numbers as bytes.
pub mod Ends
pub mod Buffers
pub mod Numbers
pub mod Methods
pub mod Refusals
pub mod BigEndian
