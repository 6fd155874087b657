pub mod States
pub mod CommandSteps
pub mod StateChanges
pub mod Recheck
pub mod DirtyBoxes
pub mod CommandReasons
