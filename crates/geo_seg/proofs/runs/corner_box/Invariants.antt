use Rattle.std.proofs.Common.{◌∷◌, take}
use Rattle.geo_seg.specs.PolygonCorners.{IsCornerBox}
use Rattle.geo_seg.proofs.runs.corner_box.Given as goal

abbrev pub invariant-loop-corner : goal.invariant-loop-corner
invariant-loop-corner l = IsCornerBox (l.fn.first ∷ take l.corner-index l.others) l.bounds
