pub mod ItemParts
pub mod Measures
pub mod Extents
pub mod Positions
pub mod ItemKinds
pub mod ItemMoves
pub mod QuarterTurns
pub mod CopperPairs
