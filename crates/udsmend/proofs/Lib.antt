-- Laws behind the proofs of `udsmend`.
pub mod Texts
pub mod Holding
pub mod Promises
