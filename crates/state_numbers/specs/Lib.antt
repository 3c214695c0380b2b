-- What the contracts of `state_numbers` cite.
pub mod Kept
