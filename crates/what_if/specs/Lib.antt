pub mod Trials
pub mod Tried
pub mod TrialScratches
pub mod CommandRuns
pub mod Fewest
pub mod TrialReasons
