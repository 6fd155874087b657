use Rattle.std.proofs.Common.{◌≡◌, ◌<◌, ◌≤◌, ℕ, length, slice_index_or}
use Rattle.ratsnest.specs.declared.waiting.Waiting.{Waiting}
use Rattle.ratsnest.specs.Grow.{IsDrawn}
use Rattle.ratsnest.proofs.waiting.draw_near.Given as goal

abbrev pub invariant-loop-held : goal.invariant-loop-held
invariant-loop-held l = record {
  done : (k : ℕ) (d : Waiting) → k < l.held-index → IsDrawn l.from (slice_index_or l.fn.waiting k d) (slice_index_or l.waiting k d);
  rest : (k : ℕ) (d : Waiting) → l.held-index ≤ k → k < length l.waiting → slice_index_or l.waiting k d ≡ slice_index_or l.fn.waiting k d;
}
