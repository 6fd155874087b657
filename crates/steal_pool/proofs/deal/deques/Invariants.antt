use Rattle.std.proofs.Common.{◌≡◌, ℕ, ◌≤◌, length, vec_capacity}
use Rattle.steal_pool.specs.Seats.{AreOwners, pushed_by, taken_by}
use Rattle.steal_pool.proofs.deal.deques.Given as goal

abbrev pub invariant-loop : goal.invariant-loop
invariant-loop l =
    AreOwners 0 1024 l.others.items l.owners.items
    × (length l.others.items ≡ l.counter)
    × (l.workers ≤ vec_capacity l.others)
    × (l.workers ≤ vec_capacity l.owners)
    × ((h : ℕ → ℕ) → (pushed_by h l.owners.items ≡ 0) × (taken_by h l.owners.items ≡ 0))
