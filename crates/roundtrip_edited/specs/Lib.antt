pub mod Footprints
pub mod ListResults
pub mod Carries
