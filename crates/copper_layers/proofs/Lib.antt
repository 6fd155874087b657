pub mod LayerLemmas
pub mod LayerNames
