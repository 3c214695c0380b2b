-- What the contracts of `story_checks` cite besides `telling`.
pub mod Coded
