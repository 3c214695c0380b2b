-- What the contracts of `uds` cite besides `rules`.
pub mod Clients
pub mod Defaults
pub mod Typed
