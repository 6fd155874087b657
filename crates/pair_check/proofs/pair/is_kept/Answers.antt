use Rattle.std.proofs.Common.{inl, inr, ℕ, ◌<◌, ◌≤◌}
use Rattle.cond_lang.specs.declared.kind.Kind.TheVariants.{Clearance}
use Rattle.kind_subjects.specs.declared.layer.RowLayer.{RowLayer}
use Rattle.kind_subjects.specs.TriedLayers.{rank}
use Rattle.kind_subjects.specs.PairSides.{FaceWithin}
use Rattle.pair_check.specs.Pairs.{Deciders, Pair}
use Rattle.pair_check.specs.Rows.{deciders}
use Rattle.pair_check.specs.CheckViews.{checked_by}
use Rattle.pair_check.specs.Stages.{pair_of, IsNearOrMeets}
use Rattle.kind_subjects.proofs.NearLayers.{short_as_clearance}
use Rattle.kind_subjects.proofs.Unfaced.{meet_within, near_within}
use Rattle.kind_subjects.proofs.TriedLayers.{none_at_start, none_in_none, none_here, none_untried, tried_in, untried_in}
use Rattle.pair_check.proofs.pair.is_kept.Goals.{in-Some+else-not-is_kept_at, in_default}
use Rattle.pair_check.proofs.pair.is_kept.Goals as goal

-- both kinds look at the same parts
within : (d : Deciders) (pair : Pair) (from to : ℕ) (layer : RowLayer) → FaceWithin Clearance pair.a pair.b from to layer → IsNearOrMeets d pair layer → (from ≤ rank layer) × (rank layer < to)
within d pair from to layer w (inl n) = near_within Clearance pair.a pair.b n.pick.least from to layer w n.near
within d pair from to layer w (inr m) = meet_within Clearance pair.a pair.b from to layer w (short_as_clearance layer pair.a pair.b m)

pub loop-place-init : goal.loop-place-init
loop-place-init c =
    let d = deciders (checked_by c.args.view.now) in
    let p = pair_of c.args.pair in
    let places = c.places_between-places.result in
    none_at_start d.copper (IsNearOrMeets d p) places.from places.to (record { within = λ layer is n. within d p places.from places.to layer (c.places_between-places.ensures.each d.copper layer is) n })

pub loop-place-preserved : goal.loop-place-preserved
loop-place-preserved c =
    let d = deciders (checked_by c.args.view.now) in
    let P = IsNearOrMeets d (pair_of c.args.pair) in
    elim c.match-tried_at.branch [
      | in-Some+else-not-is_kept_at w ↦
          none_here d.copper P c.loop-place.place w.in-Some.layer w.in-Some.ensures.0 (tried_in c.copper.result d.copper w.in-Some.layer c.copper.ensures w.in-Some.ensures.1) (w.is_kept_at.ensures w.if-not-is_kept_at.false) c.loop-place.invariant
      | in_default w ↦ none_untried d.copper P c.loop-place.place (untried_in c.copper.result d.copper c.loop-place.place c.copper.ensures w.in_default.ensures) c.loop-place.invariant
    ]

pub returns : goal.returns
returns c = λ e.
    let d = deciders (checked_by c.args.view.now) in
    let p = pair_of c.args.pair in
    let places = c.places_between-places.result in
    none_in_none d.copper (IsNearOrMeets d p) places.from places.to c.loop-place.place (record { within = λ layer is n. within d p places.from places.to layer (c.places_between-places.ensures.each d.copper layer is) n })
    c.loop-place-test.false c.loop-place.invariant
