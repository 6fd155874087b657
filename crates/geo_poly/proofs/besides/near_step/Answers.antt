use Rattle.std.proofs.Common.{◌-◌, ℤ, take, drop, subst, sym}
use Rattle.geo_seg.specs.declared.points.Seg.{Seg}
use Rattle.geo_seg.specs.Points.{rational_point_of}
use Rattle.geo_seg.specs.Inside.{path}
use Rattle.geo_seg.proofs.Choices.{fails_by}
use Rattle.geo_seg.proofs.Passed.{at_d}
use Rattle.geo_poly.specs.OutlineEdges.{IsApart}
use Rattle.geo_poly.proofs.RunLemmas.{piece}
use Rattle.geo_poly.proofs.StepLemmas.{AllApart, step_of, each_there}
use Rattle.geo_poly.proofs.besides.near_step.Goals as goal

pub returns-then-path_apart-clause-past : goal.returns-then-path_apart-clause-past
returns-then-path_apart-clause-past c =
    let cs = c.corners-corners.result.now in let ks = c.args.poly.now in let s = c.args.s in let low = c.args.low in let high = c.end-high.result in let a = c.before-from.result in
    record {
      counted = step_of (rational_point_of s.a) a cs ks low _ c.corners-corners.ensures.same c.before-from.ensures c.end-high.ensures.after c.end-high.ensures.within c.path_odd-odd.ensures;
      past = subst (AllApart s c.args.d) (sym (piece a cs ks low high c.corners-corners.ensures.same c.before-from.ensures))
          ((at_d (λ (z : ℤ). AllApart s z (path a (take (high - low) (drop low cs)))) c.args.d _ c.requires.range.from c.requires.range.to c.path_apart.ensures).0 c.if-path_apart.true);
    }

pub returns-else-path_apart-clause-stuck : goal.returns-else-path_apart-clause-stuck
returns-else-path_apart-clause-stuck c = λ x.
    let cs = c.corners-corners.result.now in let s = c.args.s in let low = c.args.low in let high = c.end-high.result in let a = c.before-from.result in
    fails_by _ (at_d (λ (z : ℤ). AllApart s z (path a (take (high - low) (drop low cs)))) c.args.d _ c.requires.range.from c.requires.range.to c.path_apart.ensures) c.if-path_apart.false
    (each_there (λ (e : Seg). IsApart e s c.args.d) a cs c.args.poly.now low high c.corners-corners.ensures.same c.before-from.ensures c.end-high.ensures.after c.end-high.ensures.within x)
