pub mod TrialResults
