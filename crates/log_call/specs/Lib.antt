-- What the contracts of `log_call` cite besides `rules`.
pub mod Asking
