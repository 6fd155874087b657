pub mod Ways
pub mod Answers
pub mod Back
pub mod Reports
pub mod Kept
pub mod Stepped
pub mod Running
pub mod Calls
