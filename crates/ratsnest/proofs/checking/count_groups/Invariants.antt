use Rattle.std.proofs.Common.{◌≡◌, max, drop}
use Rattle.ratsnest.specs.NestOf.{group_count}
use Rattle.ratsnest.proofs.checking.count_groups.Given as goal

abbrev pub invariant-loop-anchor : goal.invariant-loop-anchor
invariant-loop-anchor l = max l.count (group_count (drop l.anchor-index l.anchors)) ≡ group_count l.anchors
