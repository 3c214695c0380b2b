-- What the contracts of `text` cite besides `rules`.
pub mod Written
