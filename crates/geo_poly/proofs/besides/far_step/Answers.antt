use Rattle.std.proofs.Common.{◌-◌, ℤ, take, drop, subst}
use Rattle.geo_seg.specs.declared.points.Seg.{Seg}
use Rattle.geo_seg.specs.Points.{rational_point_of}
use Rattle.geo_seg.specs.Inside.{path, SomeEdge}
use Rattle.geo_seg.proofs.Choices.{fails_by}
use Rattle.geo_seg.proofs.Passed.{at_d}
use Rattle.geo_poly.specs.OutlineEdges.{IsReached}
use Rattle.geo_poly.proofs.RunLemmas.{piece}
use Rattle.geo_poly.proofs.StepLemmas.{step_of, some_there}
use Rattle.geo_poly.proofs.besides.far_step.Goals as goal

abbrev P : Seg → ℤ → Seg → Type 0
P s d e = IsReached e s d

pub returns-else-path_within-clause-past : goal.returns-else-path_within-clause-past
returns-else-path_within-clause-past c =
    let cs = c.corners-corners.result.now in let ks = c.args.poly.now in let s = c.args.s in let low = c.args.low in let high = c.end-high.result in let a = c.before-from.result in
    record {
      counted = step_of (rational_point_of s.a) a cs ks low _ c.corners-corners.ensures.same c.before-from.ensures c.end-high.ensures.after c.end-high.ensures.within c.path_odd-odd.ensures;
      past = λ x. fails_by _ (at_d (λ (z : ℤ). SomeEdge (P s z) (path a (take (high - low) (drop low cs)))) c.args.d _ c.requires.range.from c.requires.range.to c.path_within.ensures) c.if-path_within.false
          (subst (SomeEdge (P s c.args.d)) (piece a cs ks low high c.corners-corners.ensures.same c.before-from.ensures) x);
    }

pub returns-then-path_within-clause-stuck : goal.returns-then-path_within-clause-stuck
returns-then-path_within-clause-stuck c =
    let cs = c.corners-corners.result.now in let s = c.args.s in let low = c.args.low in let high = c.end-high.result in let a = c.before-from.result in
    some_there (P s c.args.d) a cs c.args.poly.now low high c.corners-corners.ensures.same c.before-from.ensures c.end-high.ensures.after c.end-high.ensures.within
    ((at_d (λ (z : ℤ). SomeEdge (P s z) (path a (take (high - low) (drop low cs)))) c.args.d _ c.requires.range.from c.requires.range.to c.path_within.ensures).0 c.if-path_within.true)
