-- What the contracts of `udslogs` cite, and what follows of them for a whole run.
pub mod Turns
pub mod Whole
