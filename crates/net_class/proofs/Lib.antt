pub mod InOrder
pub mod Matching
pub mod Named
pub mod Searching
pub mod Whole
