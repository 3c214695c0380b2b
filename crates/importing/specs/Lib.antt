-- Request Eight, "Import from candump": its definitions.
pub mod Texts
pub mod Import
pub mod Kept
pub mod Promises
pub mod Rows
pub mod Senders
