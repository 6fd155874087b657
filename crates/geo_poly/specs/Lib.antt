pub mod OutlineEdges
pub mod EdgeRuns
pub mod OutlineSteps
pub mod OutlineParts
