use Rattle.std.proofs.Common.{◌<◌, ℕ, length, slice_index_or}
use Rattle.ratsnest.specs.declared.waiting.Waiting.{Waiting}
use Rattle.ratsnest.specs.Grow.{IsDrawnToSome}
use Rattle.ratsnest.proofs.waiting.draw_to_all.Given as goal

abbrev pub invariant-loop-from : goal.invariant-loop-from
invariant-loop-from l =
    (k : ℕ) (d : Waiting) → k < length l.waiting → IsDrawnToSome l.joined l.from-index (slice_index_or l.fn.waiting k d) (slice_index_or l.waiting k d)
