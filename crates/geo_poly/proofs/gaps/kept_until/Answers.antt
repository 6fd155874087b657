use Rattle.std.proofs.Common.{List, subst, sym, arith}
use Rattle.std.proofs.lemmas.Int.{ints}
use Rattle.geo_seg.specs.declared.points.Seg.{Seg}
use Rattle.geo_seg.specs.Distances.{IsGap}
use Rattle.geo_seg.specs.Inside.{EachEdge}
use Rattle.geo_seg.proofs.Passed.{passed, d_kept}
use Rattle.geo_seg.proofs.GapLemmas.{gap_same}
use Rattle.geo_poly.specs.OutlineEdges.{IsApart}
use Rattle.geo_poly.proofs.RunLemmas.{piece}
use Rattle.geo_poly.proofs.gaps.kept_until.Goals as goal

pub returns-clause-gap : goal.returns-clause-gap
returns-clause-gap c =
    let cs = c.corners-corners.result.now in let low = c.args.low in let high = c.end-high.result in let is = c.path_gap-gap.ensures in
    gap_same (d_kept c.args.most c.requires.range.from c.requires.range.to) (omega (arith, ints, is.from, is.to, c.requires.range.to, c.requires.range.from))
    (subst (λ (es : List Seg). IsGap (λ d. EachEdge (λ e. IsApart e c.args.s d) es) (passed c.args.most) c.path_gap-gap.result) (sym (piece c.before-2.result cs c.args.poly.now low high c.corners-corners.ensures.same c.before-2.ensures)) is)
