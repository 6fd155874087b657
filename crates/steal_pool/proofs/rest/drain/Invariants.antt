use Rattle.std.proofs.Common.{◌≡◌, ℕ, ◌+◌, ◌-◌, ◌≤◌, length, sum_by}
use Rattle.crossbeam_deque.specs.Handles.{worker_view, worker_flavor}
use Rattle.steal_pool.specs.Seats.{taken_of}
use Rattle.steal_pool.specs.SeatValues.{HasTakenValues}
use Rattle.steal_pool.proofs.rest.drain.Given as goal

abbrev pub invariant-loop-number : goal.invariant-loop-number
invariant-loop-number g l =
    ((worker_flavor l.own ≡ 0) × ((worker_view l.own).parts ≡ 1024) × ((worker_view l.own).limit ≤ l.job.tiles) × ((worker_view l.own).put ≡ (worker_view l.initial.own).put))
    × ((h : ℕ → ℕ) → sum_by h l.share.hand.items + taken_of h l.initial.own ≡ sum_by h l.initial.share.hand.items + taken_of h l.own)
    × HasTakenValues (g.T.TileWork.gives l.job.work.now) l.share

abbrev pub decreases-loop-number : goal.decreases-loop-number
decreases-loop-number g l = length (worker_view l.own).put - length (worker_view l.own).taken
