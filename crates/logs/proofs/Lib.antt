-- The proofs of the functions, and the laws that they cite.
pub mod Layouts
pub mod Forms
pub mod Copying
