pub mod Operations
pub mod Fitting
pub mod TouchedItems
pub mod Making
pub mod Planning
