pub mod OneAnswer
pub mod OneRecheck
pub mod FoundTiles
pub mod Planned
