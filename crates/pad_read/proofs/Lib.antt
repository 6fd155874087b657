pub mod Gathering
pub mod Ratios
pub mod Padding
pub mod Adding
pub mod Making
pub mod Corners
