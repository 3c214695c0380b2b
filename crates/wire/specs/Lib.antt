-- What the contracts of `wire` cite beside `rules`.
pub mod Buffers
pub mod Memory
pub mod Methods
pub mod Refusing
