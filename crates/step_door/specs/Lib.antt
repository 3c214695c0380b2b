-- What the contracts of `step_door`, `tick_door`, `begin_door` and `begin_alfid_door` cite besides `rules`.
pub mod Stepping
