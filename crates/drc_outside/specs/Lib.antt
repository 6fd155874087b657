pub mod OutsideFaults
pub mod FilePositions
