pub mod RowsOfTile
pub mod EntryWalks
pub mod Blocks
pub mod Whole
pub mod Operands
pub mod CopperSeparation
pub mod Asks
