-- What the contracts of `log_line` cite besides `rules`.
pub mod Answered
