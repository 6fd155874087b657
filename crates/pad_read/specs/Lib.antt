pub mod Halves
pub mod LocalPlacements
pub mod PadSizes
pub mod PadShapes
pub mod CustomPads
pub mod PadFrames
pub mod PadOf
pub mod PrimitiveSteps
