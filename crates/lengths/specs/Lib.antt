-- What the contracts of `lengths` cite beside `rules`.
pub mod Numbers
