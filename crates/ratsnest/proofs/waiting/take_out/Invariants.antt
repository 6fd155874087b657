use Rattle.std.proofs.Common.{◌≡◌, ◌≢◌, ◌<◌, ◌≤◌, ◌-◌, ◌++◌, ℕ, All, slice_index_or, vec_len}
use Rattle.std.specs.List.Sorted.{IsPermutation}
use Rattle.ratsnest.specs.declared.waiting.Waiting.{Waiting}
use Rattle.ratsnest.proofs.waiting.take_out.Given as goal

abbrev pub invariant-loop-k : goal.invariant-loop-k
invariant-loop-k l = record {
  within : l.k ≤ vec_len l.waiting;
  all : IsPermutation l.fn.waiting.items (l.joined.items ++ l.waiting.items);
  joined : All (λ (w : Waiting). w.anchor.group ≡ l.group) l.joined.items;
  before : (k : ℕ) (d : Waiting) → k < l.k → (slice_index_or l.waiting.items k d).anchor.group ≢ l.group;
}

abbrev pub decreases-loop-k : goal.decreases-loop-k
decreases-loop-k l = vec_len l.waiting - l.k
