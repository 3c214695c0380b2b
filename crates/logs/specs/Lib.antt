-- What the contracts of `logs` cite besides `rules`.
pub mod Layout
