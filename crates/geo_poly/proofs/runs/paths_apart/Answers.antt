use Rattle.std.proofs.Common.{ℤ, ◌+◌, List, refl, subst, sym, drop}
use Rattle.geo_seg.specs.declared.points.Point.{Point}
use Rattle.geo_seg.specs.declared.points.Seg.{Seg}
use Rattle.geo_seg.specs.Inside.{edge, path, EachEdge}
use Rattle.geo_seg.proofs.Choices.{fails_by, surely, surely_not}
use Rattle.geo_seg.proofs.Passed.{passed, d_kept}
use Rattle.geo_poly.specs.OutlineEdges.{IsApart}
use Rattle.geo_poly.proofs.Outline.{path_next, path_end, each_step, each_fails, each_done}
use Rattle.geo_poly.proofs.runs.paths_apart.Goals as goal

abbrev P : Point → List Point → ℤ → Seg → Type 0
P other others d e = EachEdge (λ f. IsApart f e d) (path other others)

pub returns-then-not-far_apart : goal.returns-then-not-far_apart
returns-then-not-far_apart c =
    let cs = c.args.part.now in let i = c.loop-c.c-index in let a = c.loop-c.at in let b = c.c-item.result in let from = c.args.from in
    surely_not _ refl
    (λ h. each_fails (P c.args.other c.args.others.now (passed c.args.d)) (path from cs) (path a (drop i cs)) (edge a b) (path b (drop (i + 1) cs)) c.loop-c.invariant (path_next a b cs i c.loop-c-test.true c.c-item.is)
    (fails_by _ c.far_apart.ensures c.if-not-far_apart.true) (subst (λ (z : ℤ). EachEdge (P c.args.other c.args.others.now z) (path from cs)) (sym (d_kept c.args.d c.requires.range.from c.requires.range.to)) h))

pub loop-c-preserved : goal.loop-c-preserved
loop-c-preserved c =
    let cs = c.args.part.now in let i = c.loop-c.c-index in let a = c.loop-c.at in let b = c.c-item.result in
    each_step (P c.args.other c.args.others.now (passed c.args.d)) (path c.args.from cs) (path a (drop i cs)) (edge a b) (path b (drop (i + 1) cs)) c.loop-c.invariant (path_next a b cs i c.loop-c-test.true c.c-item.is)
    (c.far_apart.ensures.0 c.if-not-far_apart.false)

pub returns : goal.returns
returns c =
    let cs = c.args.part.now in let i = c.loop-c.c-index in let a = c.loop-c.at in let from = c.args.from in
    surely _ refl
    (subst (λ (z : ℤ). EachEdge (P c.args.other c.args.others.now z) (path from cs)) (d_kept c.args.d c.requires.range.from c.requires.range.to)
    (each_done (P c.args.other c.args.others.now (passed c.args.d)) (path from cs) (path a (drop i cs)) c.loop-c.invariant (path_end a cs i c.loop-c-test.false)))
