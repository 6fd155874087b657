use Rattle.std.proofs.Common.{ℤ, ◌+ℤ◌, ◌∙◌}
use Rattle.geo_seg.specs.Cores.{IsPointOf}
use Rattle.geo_seg.specs.Nearer.{AreWithin}
use Rattle.geo_seg.proofs.Passed.{d_kept}
use Rattle.geo_poly.proofs.Answers.{iff_at}
use Rattle.geo_shape.proofs.Numbers.{add_zero}
use Rattle.geo_shape.proofs.distances.meet.Goals as goal

pub returns : goal.returns
returns c =
    let a = c.args.a.now in let b = c.args.b.now in
    iff_at (λ (z : ℤ). AreWithin (IsPointOf a.core) (IsPointOf b.core) z) _ _
    (d_kept c.reach.result c.reach.ensures.range.from c.reach.ensures.range.to ∙ c.reach.ensures.value ∙ add_zero (a.radius +ℤ b.radius)) c.cores_within.ensures
