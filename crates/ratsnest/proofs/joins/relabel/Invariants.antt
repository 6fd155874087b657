use Rattle.std.proofs.Common.{◌≡◌, ◌≢◌, ◌<◌, ℕ, slice_index_or}
use Rattle.ratsnest.specs.Forest.{label_at}
use Rattle.ratsnest.proofs.joins.relabel.Given as goal

abbrev pub invariant-loop-group : goal.invariant-loop-group
invariant-loop-group l = record {
  given : (k : ℕ) → k < l.group-index → label_at l.labels (slice_index_or l.groups k 0) ≡ l.to;
  others : (g : ℕ) → ((k : ℕ) → k < l.group-index → slice_index_or l.groups k 0 ≢ g) → label_at l.labels g ≡ label_at l.fn.labels g;
}
