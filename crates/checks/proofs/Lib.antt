-- Laws of `checks`: tests of numbers, parts of parts, block lengths, the data's place, the answer and what follows from it; that one answer fits, and what the contracts come to.
pub mod Tests
pub mod Parts
pub mod Loading
pub mod Handing
pub mod Answering
pub mod Following
pub mod Unique
pub mod Inside
