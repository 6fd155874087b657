pub mod Prefixes
pub mod Pieces
pub mod Writing
