use Rattle.std.proofs.Common.{Some}
use Rattle.rule_pick.specs.Picks.{pick_of}
use Rattle.kind_subjects.specs.TriedLayers.{asked_layer}
use Rattle.pair_check.specs.Rows.{deciders}
use Rattle.pair_check.specs.CheckViews.{checked_by}
use Rattle.pair_check.proofs.Picks.{picked_as}
use Rattle.pair_check.proofs.pair.picked_at.Goals as goal

pub returns-then-not-may_face : goal.returns-then-not-may_face
returns-then-not-may_face c = record { keep = c.may_face.ensures.keep c.if-not-may_face.true; unmet = c.may_face.ensures.meet c.if-not-may_face.true }

pub returns : goal.returns
returns c =
    let d = deciders (checked_by c.args.view.now) in
    let p = c.args.pair in
    picked_as d.rules _ d.mins c.args.kind p.facts_a.now (Some p.facts_b.now) _ (asked_layer c.args.layer) (pick_of c.pick.result) c.mins-mins.ensures c.asked.ensures c.pick.ensures
