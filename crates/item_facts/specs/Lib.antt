pub mod FoundNames
pub mod NearItems
pub mod Known
pub mod EqualFacts
pub mod FactSlots
