-- Request Ten, "Mend a damaged log": the definitions, what is printed, the theorems' statements, and rows.
pub mod Mend
pub mod Said
pub mod Promises
pub mod Rows
