pub mod FootHead
pub mod Courtyards
pub mod FootprintOf
pub mod Appending
pub mod Closing
pub mod Bare
