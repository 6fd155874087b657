pub mod OneList
pub mod Numbers
pub mod Bounds
pub mod Holding
pub mod Held
