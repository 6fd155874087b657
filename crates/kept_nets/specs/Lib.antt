pub mod TouchedNets
pub mod NetPlans
