pub mod LayerNames
pub mod Later
pub mod OneFacts
pub mod OnePick
pub mod Slots
pub mod KeptLengths
pub mod Raising
pub mod CopperAsked
