use Rattle.std.proofs.Common.{◌≡◌, ℕ, ◌+◌, ◌<◌, ◌≤◌, length, vec_capacity, slice_index_or, if◌then◌else◌, nat_lt}
use Rattle.steal_pool.specs.Seats.{IsOwner, AreFirstLines, PutAlike, pushed_by, taken_by, taken_with}
use Rattle.steal_pool.proofs.deal.lines_of.Given as goal

abbrev pub invariant-loop-at : goal.invariant-loop-at
invariant-loop-at l =
    ((length l.owners ≡ length l.others) × ((k : ℕ) (s o : _) → k < length l.owners → IsOwner l.tiles (l.parts + (if nat_lt k l.at then 0 else 1)) (slice_index_or l.others k s) (slice_index_or l.owners k o)))
    × ((h : ℕ → ℕ) → (pushed_by h l.owners ≡ pushed_by h l.initial.owners) × (taken_by h l.owners ≡ taken_by h l.initial.owners))
    × AreFirstLines l.tiles l.others l.lines.items
    × (length l.lines.items ≡ l.at)
    × (length l.others ≤ vec_capacity l.lines)
    × ((h : ℕ → ℕ) → taken_with h l.lines.items ≡ 0)
    × PutAlike l.initial.owners l.owners
