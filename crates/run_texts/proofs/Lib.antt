pub mod Accepting
pub mod Refusals
pub mod FewCommands
pub mod TooMany
