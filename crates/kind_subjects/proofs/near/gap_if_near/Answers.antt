use Rattle.std.proofs.Common.{◌≡◌, ℤ, pos, ◌≤ℤ◌, ◌<ℤ◌, Bool, true, false, of_z, arith}
use Rattle.std.specs.Int.Signed.{lt_z}
use Rattle.std.proofs.lemmas.Int.{ints}
use mir.Syntax.{w64}
use Rattle.geo_seg.specs.Distances.{IsGap}
use Rattle.int_algebra.proofs.Scalars.{passed}
use Rattle.kind_subjects.specs.MeasuredPair.{KeepAt}
use Rattle.kind_subjects.proofs.NearLayers.{not_near, near_of_meeting, kept_none, gap_near, gap_kept, passed_gap}
use Rattle.kind_subjects.proofs.near.gap_if_near.Goals.{else-apart-via-then-apart+else-meet_at, else-apart-via-else-apart}
use Rattle.kind_subjects.proofs.near.gap_if_near.Goals as goal

zero : (z : ℤ) → pos 0 ≤ℤ z → z ≤ℤ pos 500000000 → of_z w64 z ≡ 0 → z ≡ pos 0
zero z h k e = omega (arith, ints)

-- the test of what the call gives
less : (gap v : ℤ) → pos 0 ≤ℤ v → v ≤ℤ pos 500000000 → lt_z (passed gap) (passed v) ≡ true → passed gap <ℤ v
less gap v h k t = omega (arith, ints)

not_less : (gap v : ℤ) → pos 0 ≤ℤ v → v ≤ℤ pos 500000000 → lt_z (passed gap) (passed v) ≡ false → v ≤ℤ passed gap
not_less gap v h k t = omega (arith, ints)

other : (r y : Bool) → r ≡ y → r ≡ false → y ≡ true → ⊥
other r y e f g = cc

same : (r y : Bool) → r ≡ y → r ≡ true → y ≡ true
same r y e f = cc

unmet : (r : Bool) → r ≡ false → r ≡ true → ⊥
unmet r e f = cc

pub returns-then-not-apart : goal.returns-then-not-apart
returns-then-not-apart c =
    let a = c.args in
    not_near a.kind a.layer a.a.now a.b.now a.least (kept_none a.kind a.layer a.a.now a.b.now a.least (zero a.least c.requires.least.from c.requires.least.to c.if-least-eq0.true))
    (λ e m. other _ _ c.may_not_meet-apart.ensures c.if-not-apart.true e)

pub returns-then-gap-least : goal.returns-then-gap-least
returns-then-gap-least c =
    let a = c.args in
    let K = KeepAt a.kind a.layer a.a.now a.b.now in
    let is : IsGap K a.least (passed c.gap_at-gap.result) = passed_gap K a.least c.gap_at-gap.result c.requires.least c.gap_at-gap.ensures in (
      gap_near a.kind a.layer a.a.now a.b.now a.least (passed c.gap_at-gap.result) is (less c.gap_at-gap.result a.least c.requires.least.from c.requires.least.to c.if-gap-least.true),
      is,
    )

pub returns-then-meet_at : goal.returns-then-meet_at
returns-then-meet_at c =
    let a = c.args in
    let K = KeepAt a.kind a.layer a.a.now a.b.now in (
      near_of_meeting a.kind a.layer a.a.now a.b.now a.least (same _ _ c.may_not_meet-apart.ensures c.if-apart.true) (c.meet_at.ensures.0 c.if-meet_at.true),
      passed_gap K a.least c.gap_at-gap.result c.requires.least c.gap_at-gap.ensures,
    )

pub returns-else-apart : goal.returns-else-apart
returns-else-apart c =
    let a = c.args in
    let K = KeepAt a.kind a.layer a.a.now a.b.now in
    let is : IsGap K a.least (passed c.gap_at-gap.result) = passed_gap K a.least c.gap_at-gap.result c.requires.least c.gap_at-gap.ensures in
    not_near a.kind a.layer a.a.now a.b.now a.least
    (gap_kept a.kind a.layer a.a.now a.b.now a.least (passed c.gap_at-gap.result) is (not_less c.gap_at-gap.result a.least c.requires.least.from c.requires.least.to c.if-gap-least.false))
    (elim c.else-apart.branch [
      | else-apart-via-then-apart+else-meet_at w ↦ λ e m. unmet _ w.if-meet_at.false (w.meet_at.ensures.1 m)
      | else-apart-via-else-apart w ↦ λ e m. other _ _ c.may_not_meet-apart.ensures w.if-apart.false e
    ])
