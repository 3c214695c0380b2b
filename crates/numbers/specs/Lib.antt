-- What the contracts of `numbers` cite besides `rules`.
pub mod Numbers
