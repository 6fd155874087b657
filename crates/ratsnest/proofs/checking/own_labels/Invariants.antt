use Rattle.std.proofs.Common.{◌≡◌, ◌<◌, ℕ, length, slice_index_or}
use Rattle.ratsnest.proofs.checking.own_labels.Given as goal

abbrev pub invariant-loop-g : goal.invariant-loop-g
invariant-loop-g l = record {
  count : length l.labels.items ≡ l.g;
  own : (g : ℕ) → g < length l.labels.items → slice_index_or l.labels.items g 0 ≡ g;
}
