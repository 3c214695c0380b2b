-- What the proof of this crate cites, and the promises of its door.
pub mod Lines
