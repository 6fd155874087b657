use Rattle.std.proofs.Common.{◌-◌, length}
use Rattle.ratsnest.specs.NestOf.{group_count}
use Rattle.ratsnest.specs.Forest.{AreKept, IsForest}
use Rattle.ratsnest.proofs.rounds.take_rounds.Given as goal

abbrev pub invariant-rounds : goal.invariant-rounds
invariant-rounds l = record {
  kept : AreKept l.labels l.members;
  forest : IsForest l.anchors l.labels l.links.items;
}

abbrev pub decreases-rounds : goal.decreases-rounds
decreases-rounds l = group_count l.anchors - length l.links.items
