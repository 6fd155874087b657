pub mod ZoneOf
pub mod FillSteps
