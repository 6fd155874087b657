use Rattle.std.proofs.Common.{sym, ap, subst, ◌∙◌, ℤ}
use Rattle.rule_pick.specs.Picks.{pick_of}
use Rattle.int_algebra.proofs.Scalars.{passed}
use Rattle.kind_subjects.specs.declared.layer.RowLayer.{RowLayer}
use Rattle.kind_subjects.specs.TriedLayers.{rank, IsTried}
use Rattle.kind_subjects.specs.SingleLayers.{IsMeasuredAt}
use Rattle.pair_check.specs.Singles.{IsOffAt}
use Rattle.pair_check.specs.Rows.{deciders}
use Rattle.pair_check.specs.CheckViews.{checked_by}
use Rattle.pair_check.specs.Stages.{IsOff}
use Rattle.kind_subjects.proofs.LengthRanges.{within_passed}
use Rattle.kind_subjects.proofs.TriedLayers.{NoneBefore, none_at_start, none_in_none, none_here, none_untried, first_here, tried_in, untried_in}
use Rattle.pair_check.proofs.single.first_off.Goals.{in-Some+in_default-off_at, in_default}
use Rattle.pair_check.proofs.single.first_off.Goals as goal

pub loop-place-init : goal.loop-place-init
loop-place-init c =
    let d = deciders (checked_by c.args.view.now) in
    let s = c.args.single in
    let places = c.places_measured-places.result in
    none_at_start d.copper (IsOffAt d c.args.kind s.item.now s.facts.now (passed c.args.n)) places.from places.to
    (record { within = λ layer is n. c.places_measured-places.ensures.each s.item.now (sym c.as_slice.ensures) layer n.asked })

pub loop-place-preserved : goal.loop-place-preserved
loop-place-preserved c =
    let d = deciders (checked_by c.args.view.now) in
    let s = c.args.single in
    let P = IsOffAt d c.args.kind s.item.now s.facts.now (passed c.args.n) in
    elim c.match-tried_at.branch [
      | in-Some+in_default-off_at w ↦
          none_here d.copper P c.loop-place.place w.in-Some.layer w.in-Some.ensures.0 (tried_in c.copper.result d.copper w.in-Some.layer c.copper.ensures w.in-Some.ensures.1) w.in_default-off_at.ensures.broken c.loop-place.invariant
      | in_default w ↦ none_untried d.copper P c.loop-place.place (untried_in c.copper.result d.copper c.loop-place.place c.copper.ensures w.in_default.ensures) c.loop-place.invariant
    ]

pub returns-clause-broken : goal.returns-clause-broken
returns-clause-broken c =
    let d = deciders (checked_by c.args.view.now) in
    let s = c.args.single in
    let places = c.places_measured-places.result in
    let before : NoneBefore d.copper (IsOffAt d c.args.kind s.item.now s.facts.now c.args.n) c.loop-place.place =
    subst (λ (z : ℤ). NoneBefore d.copper (IsOffAt d c.args.kind s.item.now s.facts.now z) c.loop-place.place) (within_passed c.args.n c.requires.within) c.loop-place.invariant in
    none_in_none d.copper (IsOffAt d c.args.kind s.item.now s.facts.now c.args.n) places.from places.to c.loop-place.place
    (record { within = λ layer is n. c.places_measured-places.ensures.each s.item.now (sym c.as_slice.ensures) layer n.asked }) c.loop-place-test.false before

pub returns-in-Some-off_at-clause-broken : goal.returns-in-Some-off_at-clause-broken
returns-in-Some-off_at-clause-broken c =
    let d = deciders (checked_by c.args.view.now) in
    let s = c.args.single in
    let before : NoneBefore d.copper (IsOffAt d c.args.kind s.item.now s.facts.now c.args.n) c.loop-place.place =
    subst (λ (z : ℤ). NoneBefore d.copper (IsOffAt d c.args.kind s.item.now s.facts.now z) c.loop-place.place) (within_passed c.args.n c.requires.within) c.loop-place.invariant in
    let off = c.in-Some-off_at.off in
    let found = c.in-Some-off_at.ensures.broken in
    let is : IsOff d c.args.kind s.facts.now c.args.n off = subst (λ (z : ℤ). IsOff d c.args.kind s.facts.now z off) (within_passed c.args.n c.requires.within) found.2 in
    let tried = tried_in c.copper.result d.copper c.in-Some.layer c.copper.ensures c.in-Some.ensures.1 in (
      is,
      first_here d.copper (IsOffAt d c.args.kind s.item.now s.facts.now c.args.n) c.loop-place.place off.layer (ap rank found.0 ∙ c.in-Some.ensures.0) (subst (λ (l : RowLayer). IsTried d.copper l) (sym found.0) tried)
          (record {
            asked = subst (λ (l : RowLayer). IsMeasuredAt c.args.kind s.item.now l) (sym found.0) found.1;
            pick = pick_of off.picked;
            picked = is.picked;
            counts = is.counts;
            over = off.limit.over;
            limit = off.limit.nm;
            broken = is.broken;
          }) before,
    )
