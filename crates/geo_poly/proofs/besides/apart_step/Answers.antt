use Rattle.std.proofs.Common.{ℤ, IfSome, IfNone}
use Rattle.geo_seg.specs.Points.{rational_point_of}
use Rattle.geo_seg.specs.Inside.{outline, EachEdge}
use Rattle.geo_poly.specs.EdgeRuns.{LiesClear}
use Rattle.geo_poly.specs.OutlineSteps.{IsPast}
use Rattle.geo_poly.proofs.RunLemmas.{each_apart}
use Rattle.geo_poly.proofs.StepLemmas.{AllApart, kept, past_by}
use Rattle.geo_poly.proofs.besides.apart_step.Goals as goal

pub returns-in-Some-clause-past : goal.returns-in-Some-clause-past
returns-in-Some-clause-past c =
    let near = c.args.near in let s = c.args.s in let d = c.args.d in
    past_by _ (AllApart s d) _ _ _ _ (λ es x. each_apart near d s es c.requires.range.from c.requires.near.holds (kept (λ (z : ℤ). EachEdge (LiesClear near z) es) d c.requires.range x)) c.in-Some.ensures

pub returns-in_default-clause-past : goal.returns-in_default-clause-past
returns-in_default-clause-past c =
    kept (λ (z : ℤ). IfSome c.near_step.result (IsPast (AllApart c.args.s z) c.args.poly.now (rational_point_of c.args.s.a) c.args.low)) c.args.d c.requires.range c.near_step.ensures.past

pub returns-in_default-clause-stuck : goal.returns-in_default-clause-stuck
returns-in_default-clause-stuck c = kept (λ (z : ℤ). IfNone c.near_step.result (¬ (AllApart c.args.s z (outline c.args.poly.now)))) c.args.d c.requires.range c.near_step.ensures.stuck
