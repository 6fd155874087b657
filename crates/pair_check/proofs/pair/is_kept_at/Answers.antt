use Rattle.std.proofs.Common.{ℤ, inl, inr, sym, subst, Some}
use Rattle.rule_pick.specs.Picks.{Pick, pick_of}
use Rattle.rule_pick.proofs.OnePick.{one_pick}
use Rattle.int_algebra.proofs.Scalars.{passed_length}
use Rattle.cond_lang.specs.declared.kind.Kind.TheVariants.{Clearance}
use Rattle.kind_subjects.specs.TriedLayers.{asked_layer}
use Rattle.kind_subjects.specs.declared.layer.RowLayer.{RowLayer}
use Rattle.kind_subjects.specs.MeasuredPair.{MeetAt, KeepAt}
use Rattle.pair_check.specs.Pairs.{Deciders, Pair, IsNearAt}
use Rattle.pair_check.specs.Rows.{deciders}
use Rattle.pair_check.specs.CheckViews.{checked_by}
use Rattle.pair_check.specs.Stages.{pair_of, IsNearOrMeets}
use Rattle.kind_subjects.proofs.NearLayers.{not_near, short_as_clearance}
use Rattle.pair_check.proofs.pair.is_kept_at.Goals as goal

-- the two keep a length on the layer and do not meet there
unbroken : (d : Deciders) (pair : Pair) (layer : RowLayer) → ((n : IsNearAt d Clearance pair layer) → KeepAt Clearance layer pair.a pair.b n.pick.least) → ¬ (MeetAt Clearance layer pair.a pair.b) → ¬ (IsNearOrMeets d pair layer)
unbroken d pair layer keep unmet (inl n) = not_near Clearance layer pair.a pair.b n.pick.least (keep n) (λ f m. unmet m) n.near
unbroken d pair layer keep unmet (inr m) = unmet (short_as_clearance layer pair.a pair.b m)

pub returns-in-None : goal.returns-in-None
returns-in-None c = λ e.
    let clear = c.in-None.ensures in
    unbroken (deciders (checked_by c.args.view.now)) (pair_of c.args.pair) c.args.layer (λ n. clear.keep n.pick.least) clear.unmet

pub returns-in-Some : goal.returns-in-Some
returns-in-Some c = λ e.
    let d = deciders (checked_by c.args.view.now) in
    let p = c.args.pair in
    let k = c.in-Some.picked in
    let layer = c.args.layer in
    let keep = subst (λ (z : ℤ). KeepAt Clearance layer p.a.now p.b.now z) (passed_length k.least k.least_in_range.from k.least_in_range.to) (c.are_kept.ensures.keep.0 e).1 in
    unbroken d (pair_of p) layer
    (λ n.
    let same = one_pick d.rules d.mins Clearance p.facts_a.now (Some p.facts_b.now) (asked_layer layer) n.pick (pick_of k) n.picked c.in-Some.ensures in
    subst (λ (q : Pick). KeepAt Clearance layer p.a.now p.b.now q.least) (sym same) keep)
    (c.are_kept.ensures.meet e)
