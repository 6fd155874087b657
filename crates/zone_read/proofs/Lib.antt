pub mod Filling
pub mod Admitting
