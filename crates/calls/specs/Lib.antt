-- What the contracts of `calls` cite besides `rules`.
pub mod Meaning
pub mod Concluded
