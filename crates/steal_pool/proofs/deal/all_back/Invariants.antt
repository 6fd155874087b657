use Rattle.std.proofs.Common.{◌≡◌, ℕ, ◌+◌, ◌-◌, ◌≤◌, length, All, sum_by, vec_len}
use Rattle.steal_pool.specs.Seats.{AreOwners, AreLines, pushed_by, taken_by, taken_with}
use Rattle.steal_pool.proofs.deal.all_back.Given as goal

abbrev pub invariant-loop-lines : goal.invariant-loop-lines
invariant-loop-lines l =
    (vec_len l.all ≤ 64)
    × AreOwners l.tiles (1024 - vec_len l.all) l.others l.owners
    × All (λ v. AreLines l.tiles l.others v.items) l.all.items
    × ((h : ℕ → ℕ) → (pushed_by h l.owners ≡ pushed_by h l.initial.owners) × (taken_by h l.owners + sum_by (λ v. taken_with h v.items) l.all.items ≡ taken_by h l.initial.owners + sum_by (λ v. taken_with h v.items) l.initial.all.items))

abbrev pub decreases-loop-lines : goal.decreases-loop-lines
decreases-loop-lines l = length l.all.items
