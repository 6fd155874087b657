use Rattle.ratsnest.specs.Forest.{AreKept, IsForest, HaveGrown}
use Rattle.ratsnest.proofs.joins.join_all.Given as goal

abbrev pub invariant-loop-link : goal.invariant-loop-link
invariant-loop-link l = record {
  kept : AreKept l.labels l.members;
  forest : IsForest l.anchors l.labels l.links.items;
  grown : HaveGrown l.anchors l.best l.link-index l.fn.labels l.fn.links.items l.labels l.links.items;
}
