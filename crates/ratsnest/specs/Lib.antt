pub mod CoordinateRange
pub mod Mem
pub mod LinkChains
pub mod NestOf
pub mod Grow
pub mod Forest
