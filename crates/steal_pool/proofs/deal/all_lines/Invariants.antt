use Rattle.std.proofs.Common.{◌≡◌, ℕ, ◌-◌, ◌≤◌, length, All, vec_capacity}
use Rattle.steal_pool.specs.Seats.{AreOwners, AreUnused, PutAlike, pushed_by, taken_by}
use Rattle.steal_pool.proofs.deal.all_lines.Given as goal

abbrev pub invariant-loop-seat : goal.invariant-loop-seat
invariant-loop-seat l =
    AreOwners l.tiles (1024 - l.seat) l.others l.owners
    × ((h : ℕ → ℕ) → (pushed_by h l.owners ≡ pushed_by h l.initial.owners) × (taken_by h l.owners ≡ taken_by h l.initial.owners))
    × (length l.all.items ≡ l.seat)
    × All (λ v. AreUnused l.tiles l.others v.items) l.all.items
    × (l.workers ≤ vec_capacity l.all)
    × PutAlike l.initial.owners l.owners
