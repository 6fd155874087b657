pub mod Stack
pub mod MeasuredSides
