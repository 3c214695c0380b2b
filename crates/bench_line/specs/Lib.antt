-- What the contracts of `bench_line` cite beside `bench` and `rules`.
pub mod Answered
