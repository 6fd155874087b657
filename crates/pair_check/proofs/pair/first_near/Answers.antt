use Rattle.std.proofs.Common.{sym, ap, subst, ◌∙◌}
use Rattle.rule_pick.specs.Picks.{pick_of}
use Rattle.kind_subjects.specs.declared.layer.RowLayer.{RowLayer}
use Rattle.kind_subjects.specs.TriedLayers.{rank, IsTried}
use Rattle.pair_check.specs.Pairs.{IsNearAt}
use Rattle.pair_check.specs.Rows.{deciders}
use Rattle.pair_check.specs.CheckViews.{checked_by}
use Rattle.pair_check.specs.Stages.{pair_of}
use Rattle.kind_subjects.proofs.Unfaced.{near_within}
use Rattle.kind_subjects.proofs.TriedLayers.{none_at_start, none_in_none, none_here, none_untried, first_here, tried_in, untried_in}
use Rattle.pair_check.proofs.pair.first_near.Goals.{in-Some+in_default-near_at, in_default}
use Rattle.pair_check.proofs.pair.first_near.Goals as goal

pub loop-place-init : goal.loop-place-init
loop-place-init c =
    let d = deciders (checked_by c.args.view.now) in
    let p = c.args.pair in
    let places = c.places_between-places.result in
    none_at_start d.copper (IsNearAt d c.args.kind (pair_of p)) places.from places.to
    (record { within = λ layer is n. near_within c.args.kind p.a.now p.b.now n.pick.least places.from places.to layer (c.places_between-places.ensures.each d.copper layer is) n.near })

pub loop-place-preserved : goal.loop-place-preserved
loop-place-preserved c =
    let d = deciders (checked_by c.args.view.now) in
    let P = IsNearAt d c.args.kind (pair_of c.args.pair) in
    elim c.match-tried_at.branch [
      | in-Some+in_default-near_at w ↦
          none_here d.copper P c.loop-place.place w.in-Some.layer w.in-Some.ensures.0 (tried_in c.copper.result d.copper w.in-Some.layer c.copper.ensures w.in-Some.ensures.1) w.in_default-near_at.ensures c.loop-place.invariant
      | in_default w ↦ none_untried d.copper P c.loop-place.place (untried_in c.copper.result d.copper c.loop-place.place c.copper.ensures w.in_default.ensures) c.loop-place.invariant
    ]

pub returns : goal.returns
returns c =
    let d = deciders (checked_by c.args.view.now) in
    let p = c.args.pair in
    let places = c.places_between-places.result in
    none_in_none d.copper (IsNearAt d c.args.kind (pair_of p)) places.from places.to c.loop-place.place
    (record { within = λ layer is n. near_within c.args.kind p.a.now p.b.now n.pick.least places.from places.to layer (c.places_between-places.ensures.each d.copper layer is) n.near }) c.loop-place-test.false c.loop-place.invariant

pub returns-in-Some-near_at : goal.returns-in-Some-near_at
returns-in-Some-near_at c =
    let d = deciders (checked_by c.args.view.now) in
    let near = c.in-Some-near_at.near in
    let found = c.in-Some-near_at.ensures in
    let is = found.1 in
    let tried = tried_in c.copper.result d.copper c.in-Some.layer c.copper.ensures c.in-Some.ensures.1 in (
      is,
      first_here d.copper (IsNearAt d c.args.kind (pair_of c.args.pair)) c.loop-place.place near.layer (ap rank found.0 ∙ c.in-Some.ensures.0) (subst (λ (l : RowLayer). IsTried d.copper l) (sym found.0) tried)
          (record { pick = pick_of near.picked; picked = is.picked; counts = is.counts; near = is.too_near }) c.loop-place.invariant,
    )
