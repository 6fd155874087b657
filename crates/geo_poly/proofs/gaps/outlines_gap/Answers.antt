use Rattle.std.proofs.Common.{List, subst, arith}
use Rattle.std.proofs.lemmas.Int.{ints}
use Rattle.geo_seg.specs.declared.points.Seg.{Seg}
use Rattle.geo_seg.specs.Distances.{IsGap}
use Rattle.geo_seg.specs.Inside.{outline}
use Rattle.geo_seg.proofs.Passed.{passed, d_kept}
use Rattle.geo_seg.proofs.GapLemmas.{gap_same}
use Rattle.geo_poly.specs.OutlineEdges.{EachApart}
use Rattle.geo_poly.specs.OutlineParts.{edges_of}
use Rattle.geo_poly.proofs.gaps.outlines_gap.Goals as goal

pub returns : goal.returns
returns c =
    let cs = c.args.a.now in let ks = c.args.b.now in let p = c.whole.result in let q = c.whole-2.result in let is = c.parts_gap.ensures in let r = c.parts_gap.result in let most = passed c.args.most in
    gap_same (d_kept c.args.most c.requires.from c.requires.to) (omega (arith, ints, is.from, is.to, c.requires.to, c.requires.from))
    (subst (λ (es : List Seg). IsGap (λ d. EachApart d es (outline ks)) most r) c.whole.ensures.whole
    (subst (λ (es : List Seg). IsGap (λ d. EachApart d (edges_of cs p) es) most r) c.whole-2.ensures.whole is))
