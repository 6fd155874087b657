use Rattle.std.proofs.Common.{◌<◌, ◌≤◌, ℕ, length}
use Rattle.ratsnest.specs.Forest.{IsLinkInside, indexed_anchor_at}
use Rattle.ratsnest.proofs.area.area_of.Given as goal

abbrev pub invariant-loop-i : goal.invariant-loop-i
invariant-loop-i l = (k : ℕ) → l.low ≤ k → k < l.i → k < length l.indexed_anchors → IsLinkInside l.area (indexed_anchor_at l.indexed_anchors k).anchor
