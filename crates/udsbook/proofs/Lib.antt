-- Laws behind the proofs of `udsbook`.
pub mod Holding
