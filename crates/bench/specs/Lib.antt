-- Document 02, request Five, "The bench responder", as definitions, with what it promises and tables of rows.
pub mod Stores
pub mod Responder
pub mod Talk
pub mod Promise
pub mod Lasting
pub mod Rows
