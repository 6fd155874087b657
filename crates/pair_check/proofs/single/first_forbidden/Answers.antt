use Rattle.std.proofs.Common.{sym, ap, subst, ◌∙◌}
use Rattle.rule_pick.specs.Picks.{pick_of}
use Rattle.kind_subjects.specs.declared.layer.RowLayer.{RowLayer}
use Rattle.kind_subjects.specs.TriedLayers.{rank, IsTried}
use Rattle.kind_subjects.specs.SingleLayers.{IsAskedAt}
use Rattle.pair_check.specs.Singles.{IsForbiddenAt}
use Rattle.pair_check.specs.Rows.{deciders}
use Rattle.pair_check.specs.CheckViews.{checked_by}
use Rattle.kind_subjects.proofs.SingleLayers.{asked_at}
use Rattle.kind_subjects.proofs.TriedLayers.{none_at_start, none_in_none, none_here, none_untried, first_here, tried_in, untried_in}
use Rattle.pair_check.proofs.single.first_forbidden.Goals.{in-Some+in_default-forbidden_at, in_default}
use Rattle.pair_check.proofs.single.first_forbidden.Goals as goal

pub loop-place-init : goal.loop-place-init
loop-place-init c =
    let d = deciders (checked_by c.args.view.now) in
    let s = c.args.single in
    let places = c.places_of_items-places.result in
    none_at_start d.copper (IsForbiddenAt d c.args.kind s.item.now s.facts.now) places.from places.to
    (record { within = λ layer is n. c.places_of_items-places.ensures.all layer (asked_at d.copper s.item.now s.item.now.what layer is n.asked) })

pub loop-place-preserved : goal.loop-place-preserved
loop-place-preserved c =
    let d = deciders (checked_by c.args.view.now) in
    let P = IsForbiddenAt d c.args.kind c.args.single.item.now c.args.single.facts.now in
    elim c.match-tried_at.branch [
      | in-Some+in_default-forbidden_at w ↦
          none_here d.copper P c.loop-place.place w.in-Some.layer w.in-Some.ensures.0 (tried_in c.copper.result d.copper w.in-Some.layer c.copper.ensures w.in-Some.ensures.1) w.in_default-forbidden_at.ensures c.loop-place.invariant
      | in_default w ↦ none_untried d.copper P c.loop-place.place (untried_in c.copper.result d.copper c.loop-place.place c.copper.ensures w.in_default.ensures) c.loop-place.invariant
    ]

pub returns : goal.returns
returns c =
    let d = deciders (checked_by c.args.view.now) in
    let s = c.args.single in
    let places = c.places_of_items-places.result in
    none_in_none d.copper (IsForbiddenAt d c.args.kind s.item.now s.facts.now) places.from places.to c.loop-place.place
    (record { within = λ layer is n. c.places_of_items-places.ensures.all layer (asked_at d.copper s.item.now s.item.now.what layer is n.asked) }) c.loop-place-test.false c.loop-place.invariant

pub returns-in-Some-forbidden_at : goal.returns-in-Some-forbidden_at
returns-in-Some-forbidden_at c =
    let d = deciders (checked_by c.args.view.now) in
    let s = c.args.single in
    let it = c.in-Some-forbidden_at.found in
    let found = c.in-Some-forbidden_at.ensures in
    let is = found.2 in
    let tried = tried_in c.copper.result d.copper c.in-Some.layer c.copper.ensures c.in-Some.ensures.1 in (
      is,
      first_here d.copper (IsForbiddenAt d c.args.kind s.item.now s.facts.now) c.loop-place.place it.layer (ap rank found.0 ∙ c.in-Some.ensures.0) (subst (λ (l : RowLayer). IsTried d.copper l) (sym found.0) tried)
          (record {
            asked = subst (λ (l : RowLayer). IsAskedAt s.item.now s.item.now.what l) (sym found.0) found.1;
            pick = pick_of it.picked;
            picked = is.picked;
            counts = is.counts;
            forbids = is.forbids;
          }) c.loop-place.invariant,
    )
