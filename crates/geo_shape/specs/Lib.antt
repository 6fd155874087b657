pub use Rattle.geo_seg.specs.Distances
