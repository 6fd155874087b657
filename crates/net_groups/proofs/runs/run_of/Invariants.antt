use Rattle.std.proofs.Common.{◌<◌, ◌≤◌, ℕ, length, slice_index_or}
use Rattle.geo_seg.specs.declared.boxes.Bounds.{Bounds}
use Rattle.geo_seg.specs.Boxes.{IsPartOf}
use Rattle.net_groups.proofs.runs.run_of.Given as goal

abbrev pub invariant-loop-place : goal.invariant-loop-place
invariant-loop-place l = (k : ℕ) (d : Bounds) → l.low ≤ k → k < l.place → k < length l.item_boxes → IsPartOf (slice_index_or l.item_boxes k d) l.run
