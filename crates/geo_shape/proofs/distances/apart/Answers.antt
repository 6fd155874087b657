use Rattle.std.proofs.Common.{ℤ, ◌+ℤ◌, ◌∙◌, ap}
use Rattle.geo_seg.specs.Cores.{IsPointOf}
use Rattle.geo_seg.specs.Nearer.{AreApart}
use Rattle.geo_seg.proofs.Passed.{d_kept}
use Rattle.geo_poly.proofs.Answers.{iff_at}
use Rattle.geo_shape.proofs.Numbers.{small_kept}
use Rattle.geo_shape.proofs.distances.apart.Goals as goal

pub returns : goal.returns
returns c =
    let a = c.args.a.now in let b = c.args.b.now in
    iff_at (λ (z : ℤ). AreApart (IsPointOf a.core) (IsPointOf b.core) z) _ _
    (d_kept c.reach.result c.reach.ensures.range.from c.reach.ensures.range.to ∙ c.reach.ensures.value ∙ ap (λ (z : ℤ). a.radius +ℤ b.radius +ℤ z) (small_kept c.args.c c.requires.from c.requires.to)) c.cores_apart.ensures
