use Rattle.std.proofs.Common.{◌≡◌, ℕ, ◌+◌, ◌<◌, length, slice_index_or, if◌then◌else◌, nat_lt}
use Rattle.steal_pool.specs.Seats.{IsOwner, AreFirstLines, pushed_by, taken_by, taken_with}
use Rattle.steal_pool.proofs.deal.give_back.Given as goal

abbrev pub invariant-loop-line : goal.invariant-loop-line
invariant-loop-line l =
    ((length l.owners ≡ length l.others) × ((k : ℕ) (s o : _) → k < length l.owners → IsOwner l.tiles (l.parts + (if nat_lt k (length l.lines.items) then 0 else 1)) (slice_index_or l.others k s) (slice_index_or l.owners k o)))
    × AreFirstLines l.tiles l.others l.lines.items
    × ((h : ℕ → ℕ) → (pushed_by h l.owners ≡ pushed_by h l.initial.owners) × (taken_by h l.owners + taken_with h l.lines.items ≡ taken_by h l.initial.owners + taken_with h l.initial.lines.items))

abbrev pub decreases-loop-line : goal.decreases-loop-line
decreases-loop-line l = goal.left-loop-line l
