-- Laws of `bench_line`: a line read byte by byte, and its answer.
pub mod Reading
pub mod Answering
