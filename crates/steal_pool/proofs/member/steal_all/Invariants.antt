use Rattle.std.proofs.Common.{◌≡◌, ℕ, ◌+◌, ◌≤◌, sum_by}
use Rattle.steal_pool.specs.Seats.{AreLines, taken_with}
use Rattle.steal_pool.specs.SeatValues.{HasTakenValues}
use Rattle.steal_pool.proofs.member.steal_all.Given as goal

abbrev pub invariant-loop : goal.invariant-loop
invariant-loop g l =
    (l.nothing ≤ 2) × AreLines l.job.tiles l.job.others.now l.lines
    × ((h : ℕ → ℕ) → sum_by h l.share.hand.items + taken_with h l.initial.lines ≡ sum_by h l.initial.share.hand.items + taken_with h l.lines)
    × HasTakenValues (g.T.TileWork.gives l.job.work.now) l.share
