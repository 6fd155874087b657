-- Parts of an outline, each with its box.
use Rattle.std.specs.Prelude.{◌<◌, ◌≤◌, List, length}
use Rattle.geo_seg.specs.declared.points.Point.{Point}
use Rattle.geo_seg.specs.declared.points.Seg.{Seg}
use Rattle.geo_seg.specs.Inside.{outline}
use Rattle.geo_seg.specs.RunBoxes.{IsRunBox}
use Rattle.geo_poly.specs.declared.runs.Part.{Part}
use Rattle.geo_poly.specs.EdgeRuns.{between}

abbrev pub edges_of : List Point → Part → List Seg
edges_of corners p = between p.low p.high (outline corners)

-- the part has edges of the outline, and its box holds them
pub record IsRunOf (corners : List Point) (p : Part) : Type 0 where
  pub some : p.low < p.high
  pub within : p.high ≤ length corners
  pub hull : IsRunBox (edges_of corners p) p.bounds
