-- What the contracts of `sessions` cite besides `rules` and `calls`.
pub mod Meaning
