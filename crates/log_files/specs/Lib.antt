-- Request Fourteen, many logs in one run: a file of logs, its lines and what is said of it, what follows of them, and rows.
pub mod Files
pub mod Said
pub mod Laws
pub mod Rows
