use Rattle.std.proofs.Common.{refl, ℤ}
use Rattle.geo_seg.specs.Points.{IsAt, IsOn}
use Rattle.geo_seg.specs.Nearer.{AreWithin}
use Rattle.geo_seg.proofs.Passed.{at_d}
use Rattle.geo_seg.proofs.Choices.{or_first, or_second}
use Rattle.geo_seg.proofs.near.ends_within.Goals as goal

pub returns-then-point_within : goal.returns-then-point_within
returns-then-point_within c =
    let s = c.args.s in let d = c.args.d in
    or_first _ _ (at_d (λ (z : ℤ). AreWithin (IsAt c.args.ends.a) (IsOn s) z) d _ c.requires.from c.requires.to c.point_within.ensures) c.if-point_within.true refl

pub returns-else-point_within : goal.returns-else-point_within
returns-else-point_within c =
    let s = c.args.s in let d = c.args.d in
    or_second _ _ _ (at_d (λ (z : ℤ). AreWithin (IsAt c.args.ends.a) (IsOn s) z) d _ c.requires.from c.requires.to c.point_within.ensures)
    (at_d (λ (z : ℤ). AreWithin (IsAt c.args.ends.b) (IsOn s) z) d _ c.requires.from c.requires.to c.point_within-else-point_within.ensures) c.if-point_within.false refl
