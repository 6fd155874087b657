use Rattle.std.proofs.Common.{ℤ, IfSome, IfNone, subst}
use Rattle.geo_seg.specs.Points.{rational_point_of}
use Rattle.geo_seg.specs.Inside.{outline, EachEdge, SomeEdge}
use Rattle.geo_poly.specs.OutlineEdges.{IsReached}
use Rattle.geo_poly.specs.EdgeRuns.{LiesClear}
use Rattle.geo_poly.specs.OutlineSteps.{IsPast}
use Rattle.geo_poly.proofs.RunLemmas.{d_more, none_reached}
use Rattle.geo_poly.proofs.StepLemmas.{NoneReached, kept, past_by}
use Rattle.geo_poly.proofs.besides.beyond_step.Goals as goal

pub returns-in-Some-clause-past : goal.returns-in-Some-clause-past
returns-in-Some-clause-past c =
    let near = c.args.near in let s = c.args.s in let d = c.args.d in let range = c.requires.range in
    past_by _ (NoneReached s d) _ _ _ _ (λ es x. none_reached near d s es range.from c.requires.near.holds (subst (λ (z : ℤ). EachEdge (LiesClear near z) es) (d_more d range.from range.to) x)) c.in-Some.ensures

pub returns-in_default-clause-past : goal.returns-in_default-clause-past
returns-in_default-clause-past c =
    kept (λ (z : ℤ). IfSome c.far_step.result (IsPast (NoneReached c.args.s z) c.args.poly.now (rational_point_of c.args.s.a) c.args.low)) c.args.d c.requires.range c.far_step.ensures.past

pub returns-in_default-clause-stuck : goal.returns-in_default-clause-stuck
returns-in_default-clause-stuck c =
    kept (λ (z : ℤ). IfNone c.far_step.result (SomeEdge (λ e. IsReached e c.args.s z) (outline c.args.poly.now))) c.args.d c.requires.range c.far_step.ensures.stuck
