use Rattle.std.proofs.Common.{◌≡◌, ◌<◌, ◌≤◌, ℕ, slice_index_or}
use Rattle.ratsnest.specs.declared.waiting.Waiting.{Waiting}
use Rattle.ratsnest.specs.Grow.{rank}
use Rattle.ratsnest.proofs.waiting.least.Given as goal

abbrev pub invariant-loop-k : goal.invariant-loop-k
invariant-loop-k l = record {
  within : l.least < l.k;
  held : (d : Waiting) → l.link ≡ (slice_index_or l.waiting l.least d).link;
  least : (k : ℕ) (d : Waiting) → k < l.k → rank l.link ≤ rank (slice_index_or l.waiting k d).link;
}
