-- What the contracts of `host` cite besides `rules`.
pub mod Served
pub mod Beside
