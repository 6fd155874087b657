use Rattle.std.proofs.Common.{◌≡◌, ℕ, ◌<◌}
use Rattle.ratsnest.specs.NestOf.{group_at}
use Rattle.ratsnest.proofs.lists.has_group.Given as goal

abbrev pub invariant-loop-place : goal.invariant-loop-place
invariant-loop-place l = (i : ℕ) → i < l.place → ¬ (group_at l.anchors i ≡ l.group)
