pub mod FirstRefusals
pub mod ListHeads
pub mod NamedElements
pub mod FoundNodes
pub mod Wanted
pub mod ListWalk
pub mod TextResults
pub mod RefusalPlaces
