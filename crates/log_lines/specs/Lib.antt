-- What the contracts of `log_lines` cite besides `log_files`, and what is promised of a whole run.
pub mod Batches
pub mod Runs
