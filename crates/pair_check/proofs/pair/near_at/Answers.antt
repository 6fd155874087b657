use Rattle.std.proofs.Common.{ℤ, refl, sym, ap, subst, Some}
use Rattle.rule_pick.specs.Picks.{Pick, pick_of}
use Rattle.rule_pick.proofs.OnePick.{one_pick}
use Rattle.int_algebra.proofs.Scalars.{passed_length}
use Rattle.kind_subjects.specs.TriedLayers.{asked_layer}
use Rattle.kind_subjects.specs.MeasuredPair.{KeepAt, TooNear}
use Rattle.pair_check.specs.Rows.{deciders}
use Rattle.pair_check.specs.CheckViews.{checked_by}
use Rattle.kind_subjects.proofs.NearLayers.{not_near, passed_gap}
use Rattle.pair_check.proofs.Picks.{counts_not, counts_so}
use Rattle.pair_check.proofs.pair.near_at.Goals as goal

pub returns-in_err-picked : goal.returns-in_err-picked
returns-in_err-picked c =
    let p = c.args.pair in
    let clear = c.in_err-picked.ensures in
    rw c.from_residual.ensures (λ n. not_near c.args.kind c.args.layer p.a.now p.b.now n.pick.least (clear.keep n.pick.least) (λ e m. clear.unmet m) n.near)

pub returns-then-not-counts : goal.returns-then-not-counts
returns-then-not-counts c = λ n.
    let d = deciders (checked_by c.args.view.now) in
    let p = c.args.pair in
    let same = one_pick d.rules d.mins c.args.kind p.facts_a.now (Some p.facts_b.now) (asked_layer c.args.layer) n.pick (pick_of c.in_ok-picked.picked) n.picked c.in_ok-picked.ensures in
    counts_not _ _ n.pick.severity c.counts.ensures c.if-not-counts.true (ap (λ (k : Pick). k.severity) same) n.counts

pub returns-in_err-gap : goal.returns-in_err-gap
returns-in_err-gap c =
    let d = deciders (checked_by c.args.view.now) in
    let p = c.args.pair in
    let k = c.in_ok-picked.picked in
    rw c.from_residual-in_err-gap.ensures (λ n.
    let same = one_pick d.rules d.mins c.args.kind p.facts_a.now (Some p.facts_b.now) (asked_layer c.args.layer) n.pick (pick_of k) n.picked c.in_ok-picked.ensures in
    let near = subst (λ (q : Pick). TooNear c.args.kind c.args.layer p.a.now p.b.now q.least) same n.near in
    c.in_err-gap.ensures (subst (λ (z : ℤ). TooNear c.args.kind c.args.layer p.a.now p.b.now z) (sym (passed_length k.least k.least_in_range.from k.least_in_range.to)) near))

pub returns : goal.returns
returns c =
    let p = c.args.pair in
    let k = c.in_ok-picked.picked in
    let found = c.in_ok-gap.ensures in (
      refl,
      record {
        picked = c.in_ok-picked.ensures;
        counts = counts_so _ _ c.counts.ensures c.if-not-counts.false;
        too_near = subst (λ (z : ℤ). TooNear c.args.kind c.args.layer p.a.now p.b.now z) (passed_length k.least k.least_in_range.from k.least_in_range.to) found.0;
        gap = passed_gap (KeepAt c.args.kind c.args.layer p.a.now p.b.now) k.least c.in_ok-gap.gap k.least_in_range found.1;
      },
    )
