use Rattle.std.proofs.Common.{◌≡◌, ℕ, ◌+◌, sum_by}
use Rattle.crossbeam_deque.specs.Handles.{worker_deque, worker_view, worker_flavor}
use Rattle.steal_pool.specs.Seats.{taken_of}
use Rattle.steal_pool.specs.SeatValues.{HasTakenValues}
use Rattle.steal_pool.proofs.member.take_own.Given as goal

abbrev pub invariant-loop : goal.invariant-loop
invariant-loop g l =
    ((worker_deque l.own ≡ worker_deque l.initial.own) × (worker_flavor l.own ≡ 0) × ((worker_view l.own).parts ≡ (worker_view l.initial.own).parts) × ((worker_view l.own).limit ≡ (worker_view l.initial.own).limit) × ((worker_view l.own).put ≡ (worker_view l.initial.own).put))
    × ((h : ℕ → ℕ) → sum_by h l.share.hand.items + taken_of h l.initial.own ≡ sum_by h l.initial.share.hand.items + taken_of h l.own)
    × HasTakenValues (g.T.TileWork.gives l.job.work.now) l.share
