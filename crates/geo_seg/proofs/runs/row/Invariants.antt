use Rattle.std.proofs.Common.{length, ◌-◌, ◌≡◌, ◌≤◌, drop}
use Rattle.geo_seg.specs.Inside.{path, outline}
use Rattle.geo_seg.proofs.RunBoxes.{IsRowTo}
use Rattle.geo_seg.proofs.runs.row.Given as goal

-- the row so far, with frames of the edges that are left, is a whole row
abbrev pub invariant-runs : goal.invariant-runs
invariant-runs l =
    (l.low ≤ length l.corners) × (drop l.low (outline l.corners) ≡ path l.from (drop l.low l.corners)) × IsRowTo l.size l.frames.items (outline l.corners) l.low

abbrev pub decreases-runs : goal.decreases-runs
decreases-runs l = length l.corners - l.low
