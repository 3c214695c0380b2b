-- Laws of `requests`; the crates above cite `Callers`, `Refusals` and `Table`.
pub mod Judging
pub mod Refusals
pub mod Table
pub mod Parts
pub mod Requests
pub mod Callers
