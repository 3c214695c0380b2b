-- Request Eleven: the engine that is handed one event at a time, and what is proved of it.
pub mod Engine
pub mod Driven
pub mod Any
pub mod Handed
pub mod Runs
