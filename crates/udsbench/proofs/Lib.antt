-- Laws of `udsbench`: a line that comes byte by byte, and an input that comes in any pieces.
pub mod Hearing
pub mod Pieces
pub mod Reading
