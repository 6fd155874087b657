pub mod TextPlaces
pub mod Texts
pub mod Turns
pub mod Walks
pub mod Words
