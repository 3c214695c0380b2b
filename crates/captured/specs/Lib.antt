-- A log of a capture: what it is, what is promised of it, and how it is answered.
pub mod Capture
pub mod Promises
pub mod Answered
