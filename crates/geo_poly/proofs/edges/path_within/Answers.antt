use Rattle.std.proofs.Common.{ℤ, ◌+◌, refl, subst, sym, drop}
use Rattle.geo_seg.specs.declared.points.Seg.{Seg}
use Rattle.geo_seg.specs.Inside.{edge, path, SomeEdge}
use Rattle.geo_seg.proofs.Choices.{fails_by, surely, surely_not}
use Rattle.geo_seg.proofs.Passed.{passed, d_kept}
use Rattle.geo_poly.specs.OutlineEdges.{IsReached}
use Rattle.geo_poly.proofs.Outline.{path_next, path_end, some_step, some_found, some_none}
use Rattle.geo_poly.proofs.edges.path_within.Goals as goal

abbrev P : Seg → ℤ → Seg → Type 0
P s d e = IsReached e s d

pub returns-then-edge_within : goal.returns-then-edge_within
returns-then-edge_within c =
    let cs = c.args.part.now in let i = c.loop-c.c-index in let a = c.loop-c.at in let b = c.c-item.result in
    surely _ refl
    (subst (λ (z : ℤ). SomeEdge (P c.args.s z) (path c.args.from cs)) (d_kept c.args.d c.requires.from c.requires.to)
    (some_found (P c.args.s (passed c.args.d)) (path c.args.from cs) (path a (drop i cs)) (edge a b) (path b (drop (i + 1) cs)) c.loop-c.invariant (path_next a b cs i c.loop-c-test.true c.c-item.is)
    (c.edge_within.ensures.0 c.if-edge_within.true)))

pub loop-c-preserved : goal.loop-c-preserved
loop-c-preserved c =
    let cs = c.args.part.now in let i = c.loop-c.c-index in let a = c.loop-c.at in let b = c.c-item.result in
    some_step (P c.args.s (passed c.args.d)) (path c.args.from cs) (path a (drop i cs)) (edge a b) (path b (drop (i + 1) cs)) c.loop-c.invariant (path_next a b cs i c.loop-c-test.true c.c-item.is)
    (fails_by _ c.edge_within.ensures c.if-edge_within.false)

pub returns : goal.returns
returns c =
    let cs = c.args.part.now in let i = c.loop-c.c-index in let a = c.loop-c.at in
    surely_not _ refl
    (λ h. some_none (P c.args.s (passed c.args.d)) (path c.args.from cs) (path a (drop i cs)) c.loop-c.invariant (path_end a cs i c.loop-c-test.false)
    (subst (λ (z : ℤ). SomeEdge (P c.args.s z) (path c.args.from cs)) (sym (d_kept c.args.d c.requires.from c.requires.to)) h))
