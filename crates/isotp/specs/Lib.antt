-- ISO 15765-2 over classic CAN with normal addressing, as definitions, and the theorems' statements.
pub mod Frames
pub mod Sending
pub mod Joining
pub mod Bus
pub mod Laws
pub mod Examples
pub mod Held
