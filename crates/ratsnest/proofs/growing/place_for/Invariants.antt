use Rattle.std.proofs.Common.{◌<◌, ◌≤◌, ◌-◌, ℕ, length, slice_index_or}
use Rattle.ratsnest.specs.declared.link.Link.{Link}
use Rattle.ratsnest.specs.Grow.{rank}
use Rattle.ratsnest.proofs.growing.place_for.Given as goal

abbrev pub invariant-halves : goal.invariant-halves
invariant-halves l = record {
  order : l.low ≤ l.high;
  within : l.high ≤ length l.links;
  below : (k : ℕ) (d : Link) → k < l.low → rank (slice_index_or l.links k d) < rank l.link;
  above : (d : Link) → l.high < length l.links → rank l.link ≤ rank (slice_index_or l.links l.high d);
}

abbrev pub decreases-halves : goal.decreases-halves
decreases-halves l = l.high - l.low
