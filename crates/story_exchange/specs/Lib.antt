-- What the contracts of `story_exchange` cite besides `telling`.
pub mod Ends
