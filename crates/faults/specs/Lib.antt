-- What the contracts of `faults` cite beside `rules`.
pub mod Found
