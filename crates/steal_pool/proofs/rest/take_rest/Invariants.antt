use Rattle.std.proofs.Common.{◌≡◌, ℕ, ◌+◌, ◌≤◌, ◌<◌, length, sum_by, slice_index_or}
use Rattle.steal_pool.specs.Seats.{IsOwner, pushed_by, taken_by}
use Rattle.steal_pool.specs.SeatValues.{HasTakenValues}
use Rattle.steal_pool.proofs.rest.take_rest.Given as goal

abbrev pub invariant-loop-own : goal.invariant-loop-own
invariant-loop-own g l =
    (length l.owners.items ≤ length l.job.others.now)
    × ((k : ℕ) (s o : _) → k < length l.owners.items → IsOwner l.job.tiles 1024 (slice_index_or l.job.others.now k s) (slice_index_or l.owners.items k o))
    × ((h : ℕ → ℕ) → sum_by h l.share.hand.items + taken_by h l.initial.owners.items + pushed_by h l.owners.items ≡ sum_by h l.initial.share.hand.items + pushed_by h l.initial.owners.items + taken_by h l.owners.items)
    × HasTakenValues (g.T.TileWork.gives l.job.work.now) l.share

abbrev pub decreases-loop-own : goal.decreases-loop-own
decreases-loop-own g l = length l.owners.items
