-- Of a bad log "the first field that is off and what it should be": the fields and their order, the words, the theorems' statements, and rows.
pub mod Fields
pub mod Words
pub mod Promises
pub mod Rows
