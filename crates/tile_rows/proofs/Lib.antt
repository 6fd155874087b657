pub mod AllTiles
pub mod Answered
pub mod Crossing
