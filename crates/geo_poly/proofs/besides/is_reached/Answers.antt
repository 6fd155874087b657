use Rattle.std.proofs.Common.{ℤ, ◌⊎◌, List, length, refl, sym, ap, ◌∙◌, ◌≤◌, inr, arith}
use Rattle.geo_seg.specs.declared.points.Seg.{Seg}
use Rattle.geo_seg.specs.Points.{rational_point_of}
use Rattle.geo_seg.specs.Inside.{path, outline, SomeEdge}
use Rattle.geo_seg.proofs.Choices.{or_second, surely}
use Rattle.geo_seg.proofs.Passed.{passed, at_d}
use Rattle.geo_poly.specs.OutlineEdges.{IsReached}
use Rattle.geo_poly.specs.EdgeRuns.{PassOdd}
use Rattle.geo_poly.proofs.Answers.{iff_at}
use Rattle.geo_poly.proofs.RunLemmas.{none_joins, or_known}
use Rattle.geo_poly.proofs.StepLemmas.{NoneReached, kept, step_on, odd_in_all, past_all}
use Rattle.geo_poly.proofs.besides.is_reached.Goals as goal

abbrev P : Seg → ℤ → Seg → Type 0
P s d e = IsReached e s d

pub steps-preserved : goal.steps-preserved
steps-preserved c =
    let s = c.args.s in let d = passed c.args.d in
    step_on (NoneReached s d) (none_joins (P s d)) c.corners-corners.result.now c.args.poly.now (rational_point_of s.a) c.steps.low c.steps.odd c.in-Some.step c.corners-corners.ensures.same c.steps.invariant c.in-Some.ensures.past

pub returns-else-path_odd : goal.returns-else-path_odd
returns-else-path_odd c =
    let cs = c.corners-corners.result.now in let a = c.before-from.result in let s = c.args.s in let d = c.args.d in
    iff_at (λ (es : List Seg). PassOdd (rational_point_of s.a) es ⊎ SomeEdge (P s d) es) _ _ (sym c.before-from.ensures ∙ ap outline c.corners-corners.ensures.same)
    (or_second _ _ _ c.path_odd.ensures (at_d (λ (z : ℤ). SomeEdge (P s z) (path a cs)) d _ c.requires.from c.requires.to c.path_within.ensures) c.if-path_odd.false refl)

pub returns-in-None : goal.returns-in-None
returns-in-None c = surely _ refl (inr (kept (λ (z : ℤ). SomeEdge (P c.args.s z) (outline c.args.poly.now)) c.args.d c.requires c.in-None.ensures.stuck))

pub returns : goal.returns
returns c =
    let cs = c.corners-corners.result.now in let ks = c.args.poly.now in let low = c.steps.low in let s = c.args.s in let d = c.args.d in
    let all : length cs ≤ low = omega arith in
    or_known c.steps.odd (odd_in_all cs ks (rational_point_of s.a) low c.steps.odd c.corners-corners.ensures.same all c.steps.invariant.1)
    (kept (λ (z : ℤ). NoneReached s z (outline ks)) d c.requires (past_all (NoneReached s (passed d)) cs ks low c.corners-corners.ensures.same all c.steps.invariant.2))
