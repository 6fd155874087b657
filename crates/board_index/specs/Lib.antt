pub mod IndexedItems
pub mod TilesHeld
