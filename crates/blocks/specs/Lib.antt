-- What the contracts and the laws of `blocks` cite besides `rules`.
pub mod Cuts
