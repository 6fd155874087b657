use Rattle.std.proofs.Common.{length, subst, arith}
use Rattle.std.proofs.lemmas.List.{get_or_default}
use Rattle.ratsnest.specs.declared.link.Link.{Link}
use Rattle.ratsnest.specs.Forest.{HasGrown, no_link}
use Rattle.ratsnest.proofs.Grew.{zero_link, grown_more, grown_less}
use Rattle.ratsnest.proofs.joins.join_all.Goals as goal

pub loop-link-preserved : goal.loop-link-preserved
loop-link-preserved c = record {
  kept = c.in_ok-join.ensures.kept;
  forest = c.in_ok-join.ensures.forest;
  grown = grown_more c.args.anchors.now c.args.best.now c.loop-link.link-index c.loop-link-test.true c.args.labels.now c.args.links.now.items c.loop-link.labels c.loop-link.links.items
      c.join.new.labels c.join.new.links.items c.loop-link.invariant.grown
      (subst (λ (z : Link). HasGrown c.args.anchors.now z c.loop-link.labels c.loop-link.links.items c.join.new.labels c.join.new.links.items)
      (get_or_default c.args.best.now c.loop-link.link-index zero_link no_link c.loop-link-test.true) c.in_ok-join.ensures.grown);
}

pub returns-clause-grown : goal.returns-clause-grown
returns-clause-grown c =
    grown_less c.args.anchors.now c.args.best.now (length c.args.best.now) c.loop-link.link-index (omega arith) c.args.labels.now c.args.links.now.items c.loop-link.labels c.loop-link.links.items
    c.loop-link.invariant.grown
