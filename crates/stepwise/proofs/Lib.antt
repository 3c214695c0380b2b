-- What specs/ states of the engine, proved.
pub mod Late
pub mod Driven
pub mod Any
pub mod Handed
pub mod Runs
pub mod Apart
