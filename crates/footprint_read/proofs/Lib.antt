pub mod Counting
pub mod Closed
pub mod Bared
pub mod Appending
pub mod Standing
pub mod Saying
pub mod OneAnswer
