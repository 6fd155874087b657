pub mod Lines
pub mod Plain
pub mod NoteLists
pub mod Scalars
pub mod Reach
