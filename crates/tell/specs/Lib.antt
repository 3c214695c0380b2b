-- What the contracts of `tell` cite besides `telling`.
pub mod Made
pub mod Told
