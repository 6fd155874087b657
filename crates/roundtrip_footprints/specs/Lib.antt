pub mod MovedHeads
pub mod FootprintPlaces
pub mod FootprintResults
