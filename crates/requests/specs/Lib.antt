-- What the contracts of `requests` cite beside `rules`.
pub mod Meaning
pub mod Rows
pub mod Parameters
pub mod Prepared
