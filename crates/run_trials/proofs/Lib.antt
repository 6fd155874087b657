pub mod TrialTexts
