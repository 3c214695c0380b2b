-- Laws of `stores`: addresses above 64 bits, the walk over identifiers, parts of parts, where memory stands, and the tests of a layout.
pub mod Addresses
pub mod Slots
pub mod Areas
pub mod Held
pub mod Layouts
