-- What the contract of `line_door` cites besides `rules`.
pub mod Lined
