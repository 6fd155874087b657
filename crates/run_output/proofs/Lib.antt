pub mod Reasons
pub mod Written
pub mod Opening
pub mod TurnLists
pub mod Turning
pub mod Ending
pub mod Scripted
