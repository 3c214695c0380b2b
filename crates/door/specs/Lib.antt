-- What the contracts of `door` cite besides `rules`.
pub mod Door
