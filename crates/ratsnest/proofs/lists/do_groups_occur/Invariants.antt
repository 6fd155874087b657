use Rattle.std.proofs.Common.{◌≡◌, ℕ, ◌<◌, length}
use Rattle.ratsnest.specs.NestOf.{group_at}
use Rattle.ratsnest.proofs.lists.do_groups_occur.Given as goal

abbrev pub invariant-loop-group : goal.invariant-loop-group
invariant-loop-group l = (g : ℕ) → g < l.group → (i : ℕ) × (i < length l.anchors) × (group_at l.anchors i ≡ g)
