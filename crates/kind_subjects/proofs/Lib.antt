pub mod TriedLayers
pub mod NearLayers
pub mod KindLayers
pub mod LengthRanges
pub mod SingleLayers
pub mod FacedLists
pub mod Unfaced
