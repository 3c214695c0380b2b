-- Laws of `exchange`: checks in order, entries and their limits, places, counts; and that each public contract has one answer.
pub mod Verdicts
pub mod Entries
pub mod Placing
pub mod Counting
pub mod Looking
pub mod Turning
pub mod Settling
pub mod Unique
