-- What the contracts of `checks` cite beside `rules`.
pub mod Answered
pub mod Spans
