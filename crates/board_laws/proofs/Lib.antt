pub mod Rest
mod Operations
mod Added
