pub mod Subjects
pub mod TriedLayers
pub mod KindLayers
pub mod Compared
pub mod MeasuredPair
pub mod PairSides
pub mod SingleLayers
pub mod LimitedLengths
