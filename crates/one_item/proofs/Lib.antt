mod Around
pub mod MeasureLemmas
pub mod EqualItems
pub mod MovedParts
pub mod ShiftedKinds
mod Staying
pub mod OneShift
pub mod RestingItems
pub mod ShiftedBack
mod MovedApart
