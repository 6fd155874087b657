use Rattle.std.proofs.Common.{ℤ, List, length, refl, sym, ap, ◌∙◌, ◌≤◌, arith}
use Rattle.geo_seg.specs.declared.points.Seg.{Seg}
use Rattle.geo_seg.specs.Points.{rational_point_of}
use Rattle.geo_seg.specs.Inside.{path, outline}
use Rattle.geo_seg.proofs.Choices.{not_and_second, surely_not}
use Rattle.geo_seg.proofs.Passed.{passed, at_d}
use Rattle.geo_poly.specs.OutlineEdges.{IsApart}
use Rattle.geo_poly.specs.EdgeRuns.{PassOdd}
use Rattle.geo_poly.proofs.Answers.{iff_at}
use Rattle.geo_poly.proofs.RunLemmas.{each_joins, not_and_known}
use Rattle.geo_poly.proofs.StepLemmas.{AllApart, kept, step_on, odd_in_all, past_all}
use Rattle.geo_poly.proofs.besides.is_beyond.Goals as goal

pub steps-preserved : goal.steps-preserved
steps-preserved c =
    let s = c.args.s in let d = passed c.args.d in
    step_on (AllApart s d) (each_joins (λ (e : Seg). IsApart e s d)) c.corners-corners.result.now c.args.poly.now (rational_point_of s.a) c.steps.low c.steps.odd c.in-Some.step c.corners-corners.ensures.same c.steps.invariant c.in-Some.ensures.past

pub returns-then-not-path_odd : goal.returns-then-not-path_odd
returns-then-not-path_odd c =
    let cs = c.corners-corners.result.now in let a = c.before-from.result in let s = c.args.s in let d = c.args.d in
    iff_at (λ (es : List Seg). (¬ (PassOdd (rational_point_of s.a) es)) × AllApart s d es) _ _ (sym c.before-from.ensures ∙ ap outline c.corners-corners.ensures.same)
    (not_and_second _ _ _ c.path_odd.ensures (at_d (λ (z : ℤ). AllApart s z (path a cs)) d _ c.requires.range.from c.requires.range.to c.path_apart.ensures) c.if-not-path_odd.true refl)

pub returns-in-None : goal.returns-in-None
returns-in-None c = surely_not _ refl (λ x. kept (λ (z : ℤ). ¬ (AllApart c.args.s z (outline c.args.poly.now))) c.args.d c.requires.range c.in-None.ensures.stuck x.1)

pub returns : goal.returns
returns c =
    let cs = c.corners-corners.result.now in let ks = c.args.poly.now in let low = c.steps.low in let s = c.args.s in let d = c.args.d in
    let all : length cs ≤ low = omega arith in
    not_and_known c.steps.odd (odd_in_all cs ks (rational_point_of s.a) low c.steps.odd c.corners-corners.ensures.same all c.steps.invariant.1)
    (kept (λ (z : ℤ). AllApart s z (outline ks)) d c.requires.range (past_all (AllApart s (passed d)) cs ks low c.corners-corners.ensures.same all c.steps.invariant.2))
