use Rattle.std.proofs.Common.{Bool, true, false, ◌≡◌}
use Rattle.kind_subjects.specs.declared.layer.RowLayer.{RowLayer}
use Rattle.kind_subjects.specs.MeasuredPair.{MeetAt}
use Rattle.kind_subjects.proofs.Unfaced.{meet_within}
use Rattle.kind_subjects.proofs.TriedLayers.{none_at_start, none_in_none, none_here, none_untried, first_here}
use Rattle.kind_subjects.proofs.meeting.first_meeting.Goals.{in-Some+else-meet_on, in_default}
use Rattle.kind_subjects.proofs.meeting.first_meeting.Goals as goal

unmet : (r : Bool) → r ≡ false → r ≡ true → ⊥
unmet r e f = cc

pub loop-place-init : goal.loop-place-init
loop-place-init c =
    let a = c.args in
    let places = c.places_between-places.result in
    none_at_start a.copper (λ (layer : RowLayer). MeetAt a.kind layer a.a.now a.b.now) places.from places.to
    (record { within = λ layer is m. meet_within a.kind a.a.now a.b.now places.from places.to layer (c.places_between-places.ensures.each a.copper layer is) m })

pub loop-place-preserved : goal.loop-place-preserved
loop-place-preserved c =
    let a = c.args in
    elim c.match-tried_at.branch [
      | in-Some+else-meet_on w ↦
          none_here a.copper (λ (layer : RowLayer). MeetAt a.kind layer a.a.now a.b.now) c.loop-place.place w.in-Some.layer w.in-Some.ensures.0 w.in-Some.ensures.1
          (λ m. unmet _ w.if-meet_on.false (w.meet_on.ensures.1 m)) c.loop-place.invariant
      | in_default w ↦ none_untried a.copper (λ (layer : RowLayer). MeetAt a.kind layer a.a.now a.b.now) c.loop-place.place w.in_default.ensures c.loop-place.invariant
    ]

pub returns : goal.returns
returns c =
    let a = c.args in
    let places = c.places_between-places.result in
    none_in_none a.copper (λ (layer : RowLayer). MeetAt a.kind layer a.a.now a.b.now) places.from places.to c.loop-place.place
    (record { within = λ layer is m. meet_within a.kind a.a.now a.b.now places.from places.to layer (c.places_between-places.ensures.each a.copper layer is) m }) c.loop-place-test.false c.loop-place.invariant

pub returns-then-meet_on : goal.returns-then-meet_on
returns-then-meet_on c =
    let a = c.args in
    first_here a.copper (λ (layer : RowLayer). MeetAt a.kind layer a.a.now a.b.now) c.loop-place.place c.in-Some.layer c.in-Some.ensures.0 c.in-Some.ensures.1 (c.meet_on.ensures.0 c.if-meet_on.true)
    c.loop-place.invariant
