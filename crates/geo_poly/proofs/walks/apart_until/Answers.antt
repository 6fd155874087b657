use Rattle.std.proofs.Common.{◌-◌, ℤ, take, drop, subst, sym, arith}
use Rattle.geo_seg.specs.declared.points.Seg.{Seg}
use Rattle.geo_seg.specs.Inside.{path, outline, EachEdge}
use Rattle.geo_seg.proofs.Choices.{fails_by}
use Rattle.geo_seg.proofs.Passed.{d_kept, at_d}
use Rattle.geo_poly.specs.OutlineEdges.{IsApart}
use Rattle.geo_poly.specs.EdgeRuns.{between, LiesClear}
use Rattle.geo_poly.proofs.RunLemmas.{each_apart, each_of_none, piece}
use Rattle.geo_poly.proofs.StepLemmas.{each_there}
use Rattle.geo_poly.proofs.walks.apart_until.Goals as goal

abbrev P : Seg → ℤ → Seg → Type 0
P s d e = IsApart e s d

pub returns-then-clear-low-clause-apart : goal.returns-then-clear-low-clause-apart
returns-then-clear-low-clause-apart c =
    let near = c.args.near in let d = c.args.d in let es = between c.args.low c.clear_end-clear.result (outline c.args.poly.now) in
    each_apart near d c.args.s es c.requires.range.from c.requires.near.holds
    (subst (λ (z : ℤ). EachEdge (LiesClear near z) es) (d_kept d c.requires.range.from c.requires.range.to) c.clear_end-clear.ensures.clear)

pub returns-then-path_apart-clause-apart : goal.returns-then-path_apart-clause-apart
returns-then-path_apart-clause-apart c =
    let cs = c.corners-corners.result.now in let low = c.args.low in let high = c.end-high.result in let a = c.before-2.result in
    subst (EachEdge (P c.args.s c.args.d)) (sym (piece a cs c.args.poly.now low high c.corners-corners.ensures.same c.before-2.ensures))
    ((at_d (λ (z : ℤ). EachEdge (P c.args.s z) (path a (take (high - low) (drop low cs)))) c.args.d _ c.requires.range.from c.requires.range.to c.path_apart.ensures).0 c.if-path_apart.true)

pub returns-else-path_apart-clause-apart : goal.returns-else-path_apart-clause-apart
returns-else-path_apart-clause-apart c = each_of_none (P c.args.s c.args.d) c.args.low c.args.low (outline c.args.poly.now) (omega arith)

pub returns-else-path_apart-clause-stuck : goal.returns-else-path_apart-clause-stuck
returns-else-path_apart-clause-stuck c = λ _ x.
    let cs = c.corners-corners.result.now in let ks = c.args.poly.now in let low = c.args.low in let high = c.end-high.result in let a = c.before-2.result in
    fails_by _ (at_d (λ (z : ℤ). EachEdge (P c.args.s z) (path a (take (high - low) (drop low cs)))) c.args.d _ c.requires.range.from c.requires.range.to c.path_apart.ensures) c.if-path_apart.false
    (each_there (P c.args.s c.args.d) a cs ks low high c.corners-corners.ensures.same c.before-2.ensures c.end-high.ensures.after c.end-high.ensures.within x)
