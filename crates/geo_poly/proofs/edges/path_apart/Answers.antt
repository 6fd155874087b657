use Rattle.std.proofs.Common.{ℤ, ◌+◌, refl, subst, sym, drop}
use Rattle.geo_seg.specs.declared.points.Seg.{Seg}
use Rattle.geo_seg.specs.Inside.{edge, path, EachEdge}
use Rattle.geo_seg.proofs.Choices.{fails_by, surely, surely_not}
use Rattle.geo_seg.proofs.Passed.{passed, d_kept}
use Rattle.geo_poly.specs.OutlineEdges.{IsApart}
use Rattle.geo_poly.proofs.Outline.{path_next, path_end, each_step, each_fails, each_done}
use Rattle.geo_poly.proofs.edges.path_apart.Goals as goal

abbrev P : Seg → ℤ → Seg → Type 0
P s d e = IsApart e s d

pub returns-then-not-edge_apart : goal.returns-then-not-edge_apart
returns-then-not-edge_apart c =
    let cs = c.args.part.now in let i = c.loop-c.c-index in let a = c.loop-c.at in let b = c.c-item.result in
    surely_not _ refl
    (λ h. each_fails (P c.args.s (passed c.args.d)) (path c.args.from cs) (path a (drop i cs)) (edge a b) (path b (drop (i + 1) cs)) c.loop-c.invariant (path_next a b cs i c.loop-c-test.true c.c-item.is)
    (fails_by _ c.edge_apart.ensures c.if-not-edge_apart.true) (subst (λ (z : ℤ). EachEdge (P c.args.s z) (path c.args.from cs)) (sym (d_kept c.args.d c.requires.from c.requires.to)) h))

pub loop-c-preserved : goal.loop-c-preserved
loop-c-preserved c =
    let cs = c.args.part.now in let i = c.loop-c.c-index in let a = c.loop-c.at in let b = c.c-item.result in
    each_step (P c.args.s (passed c.args.d)) (path c.args.from cs) (path a (drop i cs)) (edge a b) (path b (drop (i + 1) cs)) c.loop-c.invariant (path_next a b cs i c.loop-c-test.true c.c-item.is)
    (c.edge_apart.ensures.0 c.if-not-edge_apart.false)

pub returns : goal.returns
returns c =
    let cs = c.args.part.now in let i = c.loop-c.c-index in let a = c.loop-c.at in
    surely _ refl
    (subst (λ (z : ℤ). EachEdge (P c.args.s z) (path c.args.from cs)) (d_kept c.args.d c.requires.from c.requires.to)
    (each_done (P c.args.s (passed c.args.d)) (path c.args.from cs) (path a (drop i cs)) c.loop-c.invariant (path_end a cs i c.loop-c-test.false)))
