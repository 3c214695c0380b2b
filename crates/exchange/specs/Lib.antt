-- What the code's values mean in `rules`, and what the contracts say beside that: where places lie, and how counts stand for times.
pub mod Meaning
pub mod Counts
pub mod States
pub mod Places
pub mod Guarded
