-- The boxes of runs of edges that a large polygon keeps.
use Rattle.std.specs.Prelude.{ℕ, List, [], ◌∷◌, take, drop}
use Rattle.geo_seg.specs.declared.runs.TheConstants.{FIRST_RUN, SECOND_RUN, THIRD_RUN, FOURTH_RUN}
use Rattle.geo_seg.specs.declared.points.Seg.{Seg}
use Rattle.geo_seg.specs.declared.boxes.Bounds.{Bounds}
use Rattle.geo_seg.specs.declared.frames.Frame.{Frame}
use Rattle.geo_seg.specs.declared.runs.Indexed.{Indexed}
use Rattle.geo_seg.specs.Boxes.{FitsCore}
use Rattle.geo_seg.specs.PolygonCorners.{IsHeld, IsCornerBox}
use Rattle.geo_seg.specs.Inside.{EachEdge, outline}

-- the box of a frame
abbrev pub sides_of : Frame → Bounds
sides_of f = record { left = f.left; top = f.top; right = f.right; bottom = f.bottom }

-- both ends of the edge lie in the box
abbrev pub AreEndsHeld : Bounds → Seg → Type 0
AreEndsHeld b e = IsHeld b e.a × IsHeld b e.b

-- the box holds the edges
pub record IsRunBox (es : List Seg) (b : Bounds) : Type 0 where
  pub holds : EachEdge (AreEndsHeld b) es
  pub fits : FitsCore b

-- the first of the frames holds the first `size` of the edges, and so on
abbrev pub AreRuns : ℕ → List Frame → List Seg → Type 0
AreRuns size [] es = Unit {0}
AreRuns size (f ∷ fs) es = IsRunBox (take size es) (sides_of f) × AreRuns size fs (drop size es)

pub record HasRuns (index : Indexed) : Type 0 where
  pub whole : IsCornerBox index.corners.items (sides_of index.whole)
  pub first : AreRuns FIRST_RUN index.first.items (outline index.corners.items)
  pub second : AreRuns SECOND_RUN index.second.items (outline index.corners.items)
  pub third : AreRuns THIRD_RUN index.third.items (outline index.corners.items)
  pub fourth : AreRuns FOURTH_RUN index.fourth.items (outline index.corners.items)
