pub mod Reports
pub mod Lines
pub mod CommandOutputs
pub mod Output
pub mod RunEndings
pub mod RefusalLines
pub mod RunResults
