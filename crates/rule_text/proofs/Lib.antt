pub mod FewRules
pub mod InOrder
pub mod Moved
pub mod Places
pub mod Shortness
