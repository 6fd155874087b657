use Rattle.std.proofs.Common.{◌≡◌, ◌<◌, ℕ, length}
use Rattle.ratsnest.specs.Forest.{IsIndexedAnchorOf, indexed_anchor_at}
use Rattle.ratsnest.proofs.indexed_anchor.all_indexed_anchors.Given as goal

abbrev pub invariant-loop-place : goal.invariant-loop-place
invariant-loop-place l = record {
  len : length l.indexed_anchors.items ≡ l.place;
  each : (k : ℕ) → k < length l.indexed_anchors.items → IsIndexedAnchorOf l.anchors k (indexed_anchor_at l.indexed_anchors.items k);
}
