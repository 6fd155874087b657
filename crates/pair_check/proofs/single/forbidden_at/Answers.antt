use Rattle.std.proofs.Common.{◌≡◌, ap, subst, None, Bool, true, false}
use Rattle.rule_pick.specs.Picks.{Pick, pick_of}
use Rattle.rule_pick.proofs.OnePick.{one_pick}
use Rattle.kind_subjects.specs.TriedLayers.{asked_layer}
use Rattle.pair_check.specs.Singles.{IsPickAlone, Forbids}
use Rattle.pair_check.specs.Rows.{deciders}
use Rattle.pair_check.specs.CheckViews.{checked_by}
use Rattle.pair_check.proofs.Picks.{picked_as, counts_not}
use Rattle.pair_check.proofs.single.forbidden_at.Goals.{else-counts-via-then-counts+else-forbids, else-counts-via-else-counts}
use Rattle.pair_check.proofs.single.forbidden_at.Goals as goal

unmet : (r : Bool) → r ≡ false → r ≡ true → ⊥
unmet r e f = cc

pub returns-else-counts : goal.returns-else-counts
returns-else-counts c = λ n.
    let d = deciders (checked_by c.args.view.now) in
    let s = c.args.single in
    let k = c.pick-picked.result in
    let picked : IsPickAlone d c.args.kind s.facts.now c.args.layer (pick_of k) =
    picked_as d.rules _ d.mins c.args.kind s.facts.now None _ (asked_layer c.args.layer) (pick_of k) c.mins.ensures c.asked.ensures c.pick-picked.ensures in
    let same : n.pick ≡ pick_of k = one_pick d.rules d.mins c.args.kind s.facts.now None (asked_layer c.args.layer) n.pick (pick_of k) n.picked picked in
    elim c.else-counts.branch [
      | else-counts-via-then-counts+else-forbids w ↦ unmet _ w.if-forbids.false (w.forbids.ensures.1 (subst (λ (q : Pick). Forbids c.args.kind q s.item.now) same n.forbids))
      | else-counts-via-else-counts w ↦ counts_not _ _ n.pick.severity c.counts.ensures w.if-counts.false (ap (λ (q : Pick). q.severity) same) n.counts
    ]
