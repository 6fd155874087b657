use Rattle.std.proofs.Common.{◌≡◌, ◌+◌, drop, refl, arith}
use Rattle.std.proofs.lemmas.Int.{ints}
use Rattle.int_algebra.proofs.Scalars.{passed}
use Rattle.geo_seg.proofs.Passed.{d_kept}
use Rattle.geo_seg.proofs.GapLemmas.{gap_same}
use Rattle.geo_seg.specs.Inside.{edge, path, EachEdge}
use Rattle.geo_poly.specs.OutlineEdges.{IsApart}
use Rattle.geo_poly.proofs.Outline.{path_next, path_end}
use Rattle.geo_poly.proofs.Falls.{edges_fall, rest_step, rest_end}
use Rattle.geo_poly.proofs.gaps.paths_gap.Goals as goal

pub loop-c-preserved : goal.loop-c-preserved
loop-c-preserved c =
    let cs = c.args.part.now in let i = c.loop-c.c-index in let a = c.loop-c.at in let b = c.c-item.result in let fs = path c.args.other c.args.others.now in
    let so_far = c.loop-c.invariant in let is = c.far_gap-best.ensures in let next = c.far_gap-best.result in
    let same : passed next ≡ next = omega (arith, ints, is.from, is.to, so_far.0.to) in (
      record { from = omega (arith, ints, is.from, is.to, so_far.0.to, same); to = omega (arith, ints, is.from, is.to, so_far.0.to, same) },
      rest_step (λ e d. EachEdge (λ f. IsApart f e d) fs) (λ e. edges_fall e fs) (path c.args.from cs) (path a (drop i cs)) (path b (drop (i + 1) cs)) (edge a b) _ _ next _ (path_next a b cs i c.loop-c-test.true c.c-item.is) same is so_far.1,
    )

pub returns : goal.returns
returns c =
    let cs = c.args.part.now in let i = c.loop-c.c-index in let a = c.loop-c.at in let fs = path c.args.other c.args.others.now in
    gap_same (d_kept c.args.most c.requires.range.from c.requires.range.to) refl
    (rest_end (λ e d. EachEdge (λ f. IsApart f e d) fs) (λ e. edges_fall e fs) (path c.args.from cs) (path a (drop i cs)) (passed c.args.most) _ (path_end a cs i c.loop-c-test.false) c.loop-c.invariant.0.from c.loop-c.invariant.1)
