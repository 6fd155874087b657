use Rattle.std.proofs.Common.{◌≡◌, ◌<◌, ◌≤◌, ℕ, length, slice_index, if◌then◌else◌, ◌==◌}
use Rattle.ratsnest.proofs.checking.relabel.Given as goal

abbrev pub invariant-loop-label : goal.invariant-loop-label
invariant-loop-label l = record {
  done : (k : ℕ) → k < l.label-index → slice_index l.labels k ≡ (if slice_index l.initial.labels k == l.from then l.to else slice_index l.initial.labels k);
  rest : (k : ℕ) → l.label-index ≤ k → k < length l.labels → slice_index l.labels k ≡ slice_index l.initial.labels k;
}
