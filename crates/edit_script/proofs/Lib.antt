pub mod Accepting
pub mod OneByOne
pub mod Outside
pub mod Shifts
pub mod Slices
pub mod Standing
pub mod Turns
