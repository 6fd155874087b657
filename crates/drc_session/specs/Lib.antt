pub mod Sessions
pub mod SessionContents
pub mod Looks
pub mod EditSteps
