use Rattle.std.proofs.Common.{◌≡◌, ◌+◌, drop, refl, arith}
use Rattle.std.proofs.lemmas.Int.{ints}
use Rattle.int_algebra.proofs.Scalars.{passed}
use Rattle.geo_seg.proofs.Passed.{d_kept}
use Rattle.geo_seg.proofs.GapLemmas.{gap_same}
use Rattle.geo_seg.specs.Inside.{edge, path}
use Rattle.geo_poly.specs.OutlineEdges.{IsApart}
use Rattle.geo_poly.proofs.Outline.{path_next, path_end}
use Rattle.geo_poly.proofs.Falls.{edge_falls, rest_step, rest_end}
use Rattle.geo_poly.proofs.edges.path_gap.Goals as goal

pub loop-c-preserved : goal.loop-c-preserved
loop-c-preserved c =
    let cs = c.args.part.now in let i = c.loop-c.c-index in let a = c.loop-c.at in let b = c.c-item.result in let s = c.args.s in
    let so_far = c.loop-c.invariant in let is = c.seg_gap-best.ensures in let next = c.seg_gap-best.result in
    let same : passed next ≡ next = omega (arith, ints, is.from, is.to, so_far.0.to) in (
      record { from = omega (arith, ints, is.from, is.to, so_far.0.to, same); to = omega (arith, ints, is.from, is.to, so_far.0.to, same) },
      rest_step (λ e d. IsApart e s d) (edge_falls s) (path c.args.from cs) (path a (drop i cs)) (path b (drop (i + 1) cs)) (edge a b) _ _ next _ (path_next a b cs i c.loop-c-test.true c.c-item.is) same is so_far.1,
    )

pub returns : goal.returns
returns c =
    let cs = c.args.part.now in let i = c.loop-c.c-index in let a = c.loop-c.at in let s = c.args.s in
    gap_same (d_kept c.args.most c.requires.from c.requires.to) refl
    (rest_end (λ e d. IsApart e s d) (edge_falls s) (path c.args.from cs) (path a (drop i cs)) (passed c.args.most) _ (path_end a cs i c.loop-c-test.false) c.loop-c.invariant.0.from c.loop-c.invariant.1)
