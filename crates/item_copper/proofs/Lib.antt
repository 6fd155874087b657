pub mod Chosen
pub mod Far
pub mod Gaps
pub mod Meeting
pub mod ItemBoxes
pub mod SideLists
pub mod Symmetry
