use Rattle.std.proofs.Common.{◌≡◌, ℕ}
use Rattle.claim_board.specs.DealMachine.{sum_below}
use Rattle.steal_pool.specs.Seats.{AreOwners, AreGiven, pushed_by, taken_by}
use Rattle.steal_pool.proofs.deal.give_out.Given as goal

abbrev pub invariant-loop-number : goal.invariant-loop-number
invariant-loop-number l = AreOwners l.number 1024 l.others l.owners × ((h : ℕ → ℕ) → (pushed_by h l.owners ≡ sum_below h l.number) × (taken_by h l.owners ≡ 0)) × AreGiven l.number l.owners
