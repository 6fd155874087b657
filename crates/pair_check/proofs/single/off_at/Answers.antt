use Rattle.std.proofs.Common.{◌≡◌, ℤ, sym, subst, None}
use Rattle.rule_pick.specs.Picks.{Pick, pick_of}
use Rattle.rule_pick.proofs.OnePick.{one_pick}
use Rattle.kind_subjects.specs.TriedLayers.{asked_layer}
use Rattle.pair_check.specs.Singles.{IsPickAlone, BreaksLimit}
use Rattle.pair_check.specs.Rows.{deciders}
use Rattle.pair_check.specs.CheckViews.{checked_by}
use Rattle.kind_subjects.proofs.LengthRanges.{within_passed}
use Rattle.pair_check.proofs.Picks.{picked_as}
use Rattle.pair_check.proofs.single.off_at.Goals as goal

pub returns-in_err-limit-clause-broken : goal.returns-in_err-limit-clause-broken
returns-in_err-limit-clause-broken c =
    let d = deciders (checked_by c.args.view.now) in
    let kind = c.args.kind in
    let facts = c.args.single.facts.now in
    let k = c.pick-picked.result in
    let picked : IsPickAlone d kind facts c.args.layer (pick_of k) =
    picked_as d.rules _ d.mins kind facts None _ (asked_layer c.args.layer) (pick_of k) c.mins.ensures c.asked.ensures c.pick-picked.ensures in
    rw c.from_residual.ensures (λ n.
    let same : n.pick ≡ pick_of k = one_pick d.rules d.mins kind facts None (asked_layer c.args.layer) n.pick (pick_of k) n.picked picked in
    let at_pick : BreaksLimit kind c.args.n (pick_of k) n.over n.limit = subst (λ (q : Pick). BreaksLimit kind c.args.n q n.over n.limit) same n.broken in
    c.in_err-limit.ensures.broken n.over n.limit (subst (λ (z : ℤ). BreaksLimit kind z (pick_of k) n.over n.limit) (sym (within_passed c.args.n c.requires.within)) at_pick))
